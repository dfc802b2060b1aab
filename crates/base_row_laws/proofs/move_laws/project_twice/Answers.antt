use Rattle.base_row_laws.proofs.Projections.{project_twice}
use Rattle.base_row_laws.proofs.move_laws.project_twice.Goals as goal

pub returns : goal.returns
returns g c = project_twice
