use Rattle.base_row_laws.proofs.Moves.{cross_unit}
use Rattle.base_row_laws.proofs.move_laws.cross_unit.Goals as goal

pub returns : goal.returns
returns g c = cross_unit
