use Rattle.base_row_laws.proofs.Moves.{select_into_join}
use Rattle.base_row_laws.proofs.move_laws.select_into_join.Goals as goal

pub returns : goal.returns
returns g c = select_into_join
