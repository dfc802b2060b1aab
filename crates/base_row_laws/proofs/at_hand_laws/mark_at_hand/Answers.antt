use Rattle.base_row_laws.proofs.AtHand.{mark_at_hand}
use Rattle.base_row_laws.proofs.at_hand_laws.mark_at_hand.Goals as goal

pub returns : goal.returns
returns g c = mark_at_hand
