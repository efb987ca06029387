use Rattle.std.proofs.Common.{◌≡◌, ℕ, ◌+◌, ◌<◌}
use Rattle.chain.specs.Links.{Holds, walked, link}
use Rattle.chain.specs.Chain.{Same}
use Rattle.chain.proofs.store.Chain.repeat.Given as goal

abbrev pub invariant-loop-k : goal.invariant-loop-k
invariant-loop-k l = record {
  holds : Holds l.self.links.now l.initial.self.extent.operand_total (walked l.initial.self.links.now l.n l.first) l.k;
  from : l.k < l.n → l.from ≡ l.first + l.k;
  used : (j : ℕ) → j < l.initial.self.extent.operand_total → link l.self.links.now j ≡ link l.initial.self.links.now j;
  same : Same l.initial.self l.self;
}
