use Rattle.base_row_laws.proofs.AtHand.{outer_at_hand}
use Rattle.base_row_laws.proofs.at_hand_laws.outer_at_hand.Goals as goal

pub returns : goal.returns
returns g c = outer_at_hand
