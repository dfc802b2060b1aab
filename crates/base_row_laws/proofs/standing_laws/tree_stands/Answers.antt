use Rattle.base_row_laws.proofs.Standings.{tree_stands}
use Rattle.base_row_laws.proofs.standing_laws.tree_stands.Goals as goal

pub returns : goal.returns
returns g c = λ same is. tree_stands same is
