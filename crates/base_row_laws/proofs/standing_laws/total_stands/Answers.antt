use Rattle.base_row_laws.proofs.Standings.{total_stands}
use Rattle.base_row_laws.proofs.standing_laws.total_stands.Goals as goal

pub returns : goal.returns
returns g c = total_stands
