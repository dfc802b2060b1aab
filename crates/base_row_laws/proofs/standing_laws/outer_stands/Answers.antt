use Rattle.base_row_laws.proofs.Standings.{outer_stands}
use Rattle.base_row_laws.proofs.standing_laws.outer_stands.Goals as goal

pub returns : goal.returns
returns g c = outer_stands
