use Rattle.std.proofs.Common.{[], ap, ◌∙◌, arith}
use Rattle.model.specs.Refusals.{first}
use Rattle.model.specs.State.{Graph, State}
use Rattle.model.specs.Edits.{clone_rows, result_types, with_inst, with_results}
use Rattle.defs.specs.Graphs.{graph_of}
use Rattle.judges.specs.States.{state}
use Rattle.judges.proofs.Asks.{judged_none}
use Rattle.insts.proofs.Copies.{both_copied, clone_is, cloned, clones, clones_answer, first_asks, new_below, old_before, results_asks, results_room, results_short, second_asks}
use Rattle.insts.proofs.clone.clone_inst.Goals as goal

pub copy_call-requires-clause-fits : goal.copy_call-requires-clause-fits
copy_call-requires-clause-fits g c =
    let s : State = state (graph_of c.args.defs.now) (g.T.InstTable.meaning c.args.table.now) in
    let m = clones s c.args.inst (judged_none _ c.in_ok-judge.ensures) in
    let n = clones_answer m c.in_ok-new.new c.in_ok-new.ensures.says in
    first_asks s c.args.inst c.in_ok-new.new m n c.args.defs.now.lists.0

pub copy_call-requires-2-clause-fits : goal.copy_call-requires-2-clause-fits
copy_call-requires-2-clause-fits g c =
    let s : State = state (graph_of c.args.defs.now) (g.T.InstTable.meaning c.args.table.now) in
    let m = clones s c.args.inst (judged_none _ c.in_ok-judge.ensures) in
    let n = clones_answer m c.in_ok-new.new c.in_ok-new.ensures.says in
    second_asks s c.args.inst c.in_ok-new.new m n c.args.defs.now.lists.0 (graph_of c.copy_call.new.defs) c.copy_call.ensures.holds

pub clone_results-requires : goal.clone_results-requires
clone_results-requires g c =
    let s : State = state (graph_of c.args.defs.now) (g.T.InstTable.meaning c.args.table.now) in
    let m = clones s c.args.inst (judged_none _ c.in_ok-judge.ensures) in
    let n = clones_answer m c.in_ok-new.new c.in_ok-new.ensures.says in
    let b = new_below s c.args.inst c.in_ok-new.new m n c.args.defs.now.lists.0 in
    let o = old_before s c.args.inst c.in_ok-new.new m n c.args.defs.now.lists.0 in
    let x : Graph = graph_of c.copy_call-2.new.defs in
    let e = both_copied s.graph c.args.inst c.in_ok-new.new (graph_of c.copy_call.new.defs) x c.copy_call.ensures.holds c.copy_call-2.ensures.holds in
    let l = ap (λ (y : Graph). y.limits.insts) e in
    record {
      below = omega arith;
      new = omega arith;
      short = results_short s c.args.inst c.in_ok-new.new m n c.args.defs.now.lists.0 x e m.short;
      room = results_room s c.args.inst c.in_ok-new.new m n c.args.defs.now.lists.0 x e;
      fits = results_asks s c.args.inst c.in_ok-new.new m n c.args.defs.now.lists.0 x e;
    }

pub returns-clause-says : goal.returns-clause-says
returns-clause-says g c =
    let s : State = state (graph_of c.args.defs.now) (g.T.InstTable.meaning c.args.table.now) in
    let i = c.args.inst in
    let new = c.in_ok-new.new in
    let f = judged_none (first (clone_rows s c.args.inst)) c.in_ok-judge.ensures in
    let m = clones s c.args.inst f in
    let n = clones_answer m c.in_ok-new.new c.in_ok-new.ensures.says in
    let e = both_copied s.graph i new (graph_of c.copy_call.new.defs) (graph_of c.copy_call-2.new.defs) c.copy_call.ensures.holds c.copy_call-2.ensures.holds in
    cloned s i new _ _ f n
    (c.count_inst.ensures.holds
    ∙ ap with_inst (c.clone_results.ensures.holds
    ∙ (ap (λ (x : Graph). with_results x new (result_types x i) []) e ∙ clone_is s.graph i new (old_before s i new m n c.args.defs.now.lists.0))))
    c.in_ok-new.ensures.holds
