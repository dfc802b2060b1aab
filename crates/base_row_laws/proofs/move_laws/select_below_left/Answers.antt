use Rattle.base_row_laws.proofs.Moves.{select_below_left}
use Rattle.base_row_laws.proofs.move_laws.select_below_left.Goals as goal

pub returns : goal.returns
returns g c = select_below_left
