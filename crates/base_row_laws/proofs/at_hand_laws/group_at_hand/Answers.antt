use Rattle.base_row_laws.proofs.AtHand.{group_at_hand}
use Rattle.base_row_laws.proofs.at_hand_laws.group_at_hand.Goals as goal

pub returns : goal.returns
returns g c = group_at_hand
