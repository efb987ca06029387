use Rattle.std.proofs.Common.{◌≡◌, length}
use Rattle.queries.specs.Readers.{pairs_left, values_left}
use Rattle.queries.proofs.reading.ValuesAndDefsIterator.next.Given as goal

abbrev pub invariant-loop-v : goal.invariant-loop-v
invariant-loop-v l = pairs_left l.self ≡ pairs_left l.initial.self

abbrev pub decreases-loop-v : goal.decreases-loop-v
decreases-loop-v l = length (values_left l.self.values)
