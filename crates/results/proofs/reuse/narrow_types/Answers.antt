use Rattle.std.proofs.Common.{rules}
use Rattle.judges.proofs.Asks.{asked_among}
use Rattle.results.proofs.reuse.narrow_types.Goals as goal

pub returns : goal.returns
returns c = asked_among _ _ (λ t s p. search rules) _ c.each.ensures
