use Rattle.base_row_laws.proofs.Standings.{inner_matched_stands}
use Rattle.base_row_laws.proofs.standing_laws.inner_matched_stands.Goals as goal

pub returns : goal.returns
returns g c = λ same. inner_matched_stands same
