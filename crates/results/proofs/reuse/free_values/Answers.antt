use Rattle.std.proofs.Common.{rules}
use Rattle.results.proofs.Each.{asked_reused}
use Rattle.results.proofs.reuse.free_values.Goals as goal

pub returns : goal.returns
returns c = asked_reused _ _ (λ e s p. search rules) _ c.each.ensures
