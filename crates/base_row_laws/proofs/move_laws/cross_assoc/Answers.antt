use Rattle.base_row_laws.proofs.Moves.{cross_assoc}
use Rattle.base_row_laws.proofs.move_laws.cross_assoc.Goals as goal

pub returns : goal.returns
returns g c = cross_assoc
