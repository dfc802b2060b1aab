use Rattle.base_row_laws.proofs.Attached.{project_out_of_join}
use Rattle.base_row_laws.proofs.move_laws.project_out_of_join.Goals as goal

pub returns : goal.returns
returns g c = λ f g c. project_out_of_join f g c
