use Rattle.base_row_laws.proofs.Standings.{cross_stands}
use Rattle.base_row_laws.proofs.standing_laws.cross_stands.Goals as goal

pub returns : goal.returns
returns g c = cross_stands
