use Rattle.std.proofs.Common.{Err, ap, ◌∙◌}
use Rattle.std.proofs.lemmas.Result.{err_from_is_err_and}
use Rattle.model.specs.declared.fault.GraphFault.{GraphFault}
use Rattle.model.specs.Refusals.{first}
use Rattle.model.specs.State.{State}
use Rattle.model.specs.Edits.{make_inst_rows}
use Rattle.defs.specs.Graphs.{graph_of}
use Rattle.judges.specs.States.{state}
use Rattle.insts.proofs.Makes.{refuses}
use Rattle.insts.proofs.make.make_inst.Goals as goal

pub returns-in_err-judge-clause-says : goal.returns-in_err-judge-clause-says
returns-in_err-judge-clause-says g c =
    let s : State = state (graph_of c.args.defs.now) (g.T.InstTable.meaning c.args.table.now) in
    let p = err_from_is_err_and c.from_residual.result c.from_residual.ensures.1 in
    refuses _ _ _ _ (first (make_inst_rows s c.args.operands.now c.args.targets.now)) _ (p.1 ∙ ap (λ (f : GraphFault). Err f) p.2) c.in_err-judge.ensures
