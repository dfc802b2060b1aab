use Rattle.base_row_laws.proofs.AtHand.{domain_at_hand}
use Rattle.base_row_laws.proofs.at_hand_laws.domain_at_hand.Goals as goal

pub returns : goal.returns
returns g c = domain_at_hand
