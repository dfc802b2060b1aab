use Rattle.base_row_laws.proofs.Standings.{fill_stands}
use Rattle.base_row_laws.proofs.standing_laws.fill_stands.Goals as goal

pub returns : goal.returns
returns g c = λ same. fill_stands same
