use Rattle.model.proofs.Worked.{worked}
use Rattle.model.proofs.cases.worked_cases.Goals as goal

pub returns : goal.returns
returns c = worked
