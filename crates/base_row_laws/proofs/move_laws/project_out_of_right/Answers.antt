use Rattle.base_row_laws.proofs.Projections.{project_out_of_right}
use Rattle.base_row_laws.proofs.move_laws.project_out_of_right.Goals as goal

pub returns : goal.returns
returns g c = project_out_of_right
