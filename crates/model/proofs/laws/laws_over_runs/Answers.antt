use Rattle.model.proofs.Reaching.{laws_over_runs}
use Rattle.model.proofs.laws.laws_over_runs.Goals as goal

pub returns : goal.returns
returns c = laws_over_runs
