use Rattle.base_row_laws.proofs.Values.{faults_first}
use Rattle.base_row_laws.proofs.value_laws.faults_first.Goals as goal

pub returns : goal.returns
returns g c = λ same is m divided before. faults_first m divided before same
