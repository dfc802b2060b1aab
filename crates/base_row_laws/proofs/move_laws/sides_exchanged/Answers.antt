use Rattle.base_row_laws.proofs.Moves.{sides_exchanged}
use Rattle.base_row_laws.proofs.move_laws.sides_exchanged.Goals as goal

pub returns : goal.returns
returns g c = sides_exchanged
