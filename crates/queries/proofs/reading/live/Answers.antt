use Rattle.std.proofs.Common.{refl}
use Rattle.values.specs.Fronts.{listed}
use Rattle.queries.proofs.reading.live.Goals as goal

pub returns : goal.returns
unfolding listed
returns c = refl
