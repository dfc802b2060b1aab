use Rattle.base_row_laws.proofs.Standings.{attach_stands}
use Rattle.base_row_laws.proofs.standing_laws.attach_stands.Goals as goal

pub returns : goal.returns
returns g c = attach_stands
