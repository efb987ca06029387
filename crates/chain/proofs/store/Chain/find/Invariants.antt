use Rattle.std.proofs.Common.{◌≡◌, ◌+◌}
use Rattle.chain.specs.Links.{at}
use Rattle.chain.proofs.store.Chain.find.Given as goal

abbrev pub invariant-loop : goal.invariant-loop
invariant-loop l = l.at ≡ (at l.self.rows.now l.i).first + l.counter
