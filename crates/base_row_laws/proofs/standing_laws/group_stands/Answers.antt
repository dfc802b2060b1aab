use Rattle.base_row_laws.proofs.Standings.{group_stands}
use Rattle.base_row_laws.proofs.standing_laws.group_stands.Goals as goal

pub returns : goal.returns
returns g c = λ same. group_stands same
