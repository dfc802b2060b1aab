use Rattle.base_row_laws.proofs.Standings.{select_true}
use Rattle.base_row_laws.proofs.standing_laws.select_true.Goals as goal

pub returns : goal.returns
returns g c = select_true
