use Rattle.defs.specs.Graphs.{graph_of}
use Rattle.insts.proofs.Clones.{Renewing}
use Rattle.insts.proofs.clone.renew_results.Given as goal

abbrev pub invariant-loop-k : goal.invariant-loop-k
invariant-loop-k l = Renewing (graph_of l.initial.defs) l.inst l.list l.k l.defs
