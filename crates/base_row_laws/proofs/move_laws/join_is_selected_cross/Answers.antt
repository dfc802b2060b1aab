use Rattle.base_row_laws.proofs.Moves.{join_is_selected_cross}
use Rattle.base_row_laws.proofs.move_laws.join_is_selected_cross.Goals as goal

pub returns : goal.returns
returns g c = join_is_selected_cross
