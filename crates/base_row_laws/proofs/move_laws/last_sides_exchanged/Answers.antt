use Rattle.base_row_laws.proofs.Moves.{last_sides_exchanged}
use Rattle.base_row_laws.proofs.move_laws.last_sides_exchanged.Goals as goal

pub returns : goal.returns
returns g c = last_sides_exchanged
