use Rattle.base_row_laws.proofs.Standings.{select_stands}
use Rattle.base_row_laws.proofs.standing_laws.select_stands.Goals as goal

pub returns : goal.returns
returns g c = select_stands
