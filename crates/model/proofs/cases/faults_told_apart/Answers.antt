use Rattle.model.proofs.Apart.{told_apart}
use Rattle.model.proofs.cases.faults_told_apart.Goals as goal

pub returns : goal.returns
returns c = told_apart
