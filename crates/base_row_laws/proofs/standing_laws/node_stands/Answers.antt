use Rattle.base_row_laws.proofs.Standings.{node_stands}
use Rattle.base_row_laws.proofs.standing_laws.node_stands.Goals as goal

pub returns : goal.returns
returns g c = λ same is. node_stands same is
