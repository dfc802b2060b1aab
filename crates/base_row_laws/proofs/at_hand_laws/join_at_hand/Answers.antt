use Rattle.base_row_laws.proofs.AtHand.{join_at_hand}
use Rattle.base_row_laws.proofs.at_hand_laws.join_at_hand.Goals as goal

pub returns : goal.returns
returns g c = join_at_hand
