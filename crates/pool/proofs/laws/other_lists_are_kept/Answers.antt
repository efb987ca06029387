use Rattle.pool.proofs.Keeping.{others_kept}
use Rattle.pool.proofs.laws.other_lists_are_kept.Goals as goal

pub returns : goal.returns
returns g c = λ b cs m s. others_kept cs b m s
