use Rattle.pool.proofs.Keeping.{smallest_had}
use Rattle.pool.proofs.laws.smallest_block.Goals as goal

pub returns : goal.returns
returns c = smallest_had
