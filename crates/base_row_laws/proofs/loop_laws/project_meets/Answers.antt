use Rattle.base_row_laws.proofs.Nodes.{project_meets}
use Rattle.base_row_laws.proofs.loop_laws.project_meets.Goals as goal

pub returns : goal.returns
returns g c = λ same is. project_meets same is
