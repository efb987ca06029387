use Rattle.std.proofs.Common.{drop, Result}
use Rattle.model.specs.declared.fault.GraphFault.{GraphFault}
use Rattle.judges.specs.Each.{AskedEach}
use Rattle.judges.proofs.each.each.Given as goal

abbrev pub invariant-loop-item : goal.invariant-loop-item
invariant-loop-item g l =
    (r : Result (Unit {0}) GraphFault) → AskedEach (goal.F-post g l.ask) (drop l.item-index l.items) r → AskedEach (goal.F-post g l.ask) l.items r
