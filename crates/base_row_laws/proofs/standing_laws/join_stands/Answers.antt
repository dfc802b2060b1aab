use Rattle.base_row_laws.proofs.Standings.{join_stands}
use Rattle.base_row_laws.proofs.standing_laws.join_stands.Goals as goal

pub returns : goal.returns
returns g c = join_stands
