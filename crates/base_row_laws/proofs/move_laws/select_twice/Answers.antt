use Rattle.base_row_laws.proofs.Moves.{select_twice}
use Rattle.base_row_laws.proofs.move_laws.select_twice.Goals as goal

pub returns : goal.returns
returns g c = select_twice
