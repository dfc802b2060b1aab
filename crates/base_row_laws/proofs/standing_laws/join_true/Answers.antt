use Rattle.base_row_laws.proofs.Standings.{join_true}
use Rattle.base_row_laws.proofs.standing_laws.join_true.Goals as goal

pub returns : goal.returns
returns g c = join_true
