use Rattle.base_row_laws.proofs.AtHand.{select_at_hand}
use Rattle.base_row_laws.proofs.at_hand_laws.select_at_hand.Goals as goal

pub returns : goal.returns
returns g c = select_at_hand
