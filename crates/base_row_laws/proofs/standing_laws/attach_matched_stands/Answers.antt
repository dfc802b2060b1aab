use Rattle.base_row_laws.proofs.Standings.{attach_matched_stands}
use Rattle.base_row_laws.proofs.standing_laws.attach_matched_stands.Goals as goal

pub returns : goal.returns
returns g c = λ same. attach_matched_stands same
