use Rattle.std.proofs.Common.{◌≡◌, length}
use Rattle.queries.specs.Readers.{values_left}
use Rattle.queries.proofs.reading.ValuesIterator.next.Given as goal

abbrev pub invariant-loop-first : goal.invariant-loop-first
invariant-loop-first l = values_left l.self ≡ values_left l.initial.self

abbrev pub decreases-loop-first : goal.decreases-loop-first
decreases-loop-first l = length l.self.rest.now
