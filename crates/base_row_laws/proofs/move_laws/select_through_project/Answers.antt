use Rattle.base_row_laws.proofs.Moves.{select_through_project}
use Rattle.base_row_laws.proofs.move_laws.select_through_project.Goals as goal

pub returns : goal.returns
returns g c = select_through_project
