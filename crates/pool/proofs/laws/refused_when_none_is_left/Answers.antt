use Rattle.pool.proofs.Keeping.{refused_when}
use Rattle.pool.proofs.laws.refused_when_none_is_left.Goals as goal

pub returns : goal.returns
returns g c = refused_when
