use Rattle.base_row_laws.proofs.AtHand.{select_below_attach}
use Rattle.base_row_laws.proofs.move_laws.select_below_attach.Goals as goal

pub returns : goal.returns
returns g c = select_below_attach
