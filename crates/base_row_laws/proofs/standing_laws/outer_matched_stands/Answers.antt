use Rattle.base_row_laws.proofs.Standings.{outer_matched_stands}
use Rattle.base_row_laws.proofs.standing_laws.outer_matched_stands.Goals as goal

pub returns : goal.returns
returns g c = λ same. outer_matched_stands same
