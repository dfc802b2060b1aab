use Rattle.base_row_laws.proofs.Alike.{join_alike}
use Rattle.base_row_laws.proofs.alike_laws.join_node_alike.Goals as goal

pub returns : goal.returns
returns g c = λ same is. join_alike same is
