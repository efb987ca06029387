use Rattle.defs.specs.Graphs.{graph_of}
use Rattle.insts.proofs.Aims.{aim_fits, aim_more}
use Rattle.insts.proofs.steps.aim.Goals as goal

pub write_list-requires : goal.write_list-requires
write_list-requires c =
    record {
      fits = aim_fits (graph_of c.args.defs.now) c.args.inst c.args.targets.now c.loop-j.j c.loop-j.defs c.loop-j.invariant c.loop-j-test.true _ c.call_list-list.ensures.within;
    }

pub loop-j-preserved : goal.loop-j-preserved
loop-j-preserved c =
    aim_more (graph_of c.args.defs.now) c.args.inst c.args.targets.now c.loop-j.j c.loop-j.defs c.loop-j.invariant c.loop-j-test.true
    _ _ c.call_list-list.ensures.says c.write_list.ensures.holds
