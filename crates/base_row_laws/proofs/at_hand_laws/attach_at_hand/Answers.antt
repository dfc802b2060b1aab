use Rattle.base_row_laws.proofs.AtHand.{attach_at_hand}
use Rattle.base_row_laws.proofs.at_hand_laws.attach_at_hand.Goals as goal

pub returns : goal.returns
returns g c = attach_at_hand
