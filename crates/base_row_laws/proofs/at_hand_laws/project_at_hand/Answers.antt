use Rattle.base_row_laws.proofs.AtHand.{project_at_hand}
use Rattle.base_row_laws.proofs.at_hand_laws.project_at_hand.Goals as goal

pub returns : goal.returns
returns g c = project_at_hand
