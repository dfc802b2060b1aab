use Rattle.base_row_laws.proofs.Moves.{on_below_right}
use Rattle.base_row_laws.proofs.move_laws.on_below_right.Goals as goal

pub returns : goal.returns
returns g c = on_below_right
