use Rattle.base_row_laws.proofs.Trees.{project_step}
use Rattle.base_row_laws.proofs.domain_laws.project_answers.Goals as goal

pub returns : goal.returns
returns g c = λ same is. project_step same is
