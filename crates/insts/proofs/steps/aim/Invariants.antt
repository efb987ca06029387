use Rattle.defs.specs.Graphs.{graph_of}
use Rattle.insts.proofs.Aims.{Aiming}
use Rattle.insts.proofs.steps.aim.Given as goal

abbrev pub invariant-loop-j : goal.invariant-loop-j
invariant-loop-j l = Aiming (graph_of l.initial.defs) l.inst l.targets l.j l.defs
