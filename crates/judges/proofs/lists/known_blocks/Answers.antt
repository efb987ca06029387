use Rattle.std.proofs.Common.{rules}
use Rattle.judges.proofs.Asks.{asked_among}
use Rattle.judges.proofs.lists.known_blocks.Goals as goal

pub returns : goal.returns
returns c = asked_among _ _ (λ x s p. search rules) _ c.each.ensures
