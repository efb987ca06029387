use Rattle.pool.proofs.Keeping.{nothing_leaks}
use Rattle.pool.proofs.laws.nothing_leaks.Goals as goal

pub returns : goal.returns
returns g c = nothing_leaks
