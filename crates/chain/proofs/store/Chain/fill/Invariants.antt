use Rattle.chain.specs.Links.{Holds}
use Rattle.chain.specs.Chain.{Same}
use Rattle.chain.proofs.store.Chain.fill.Given as goal

abbrev pub invariant-loop-k : goal.invariant-loop-k
invariant-loop-k l = record { holds : Holds l.self.links.now l.initial.self.extent.operand_total l.operands l.k; same : Same l.initial.self l.self }
