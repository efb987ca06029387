use Rattle.std.proofs.Common.{refl, ◌∙◌}
use Rattle.results.proofs.Each.{any_among}
use Rattle.results.proofs.reuse.names.Goals as goal

pub returns : goal.returns
returns c = c.contains.ensures.value ∙ any_among _ c.args.v refl (λ u. refl) c.args.reuse.now
