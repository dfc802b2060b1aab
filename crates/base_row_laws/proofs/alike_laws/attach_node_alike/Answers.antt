use Rattle.base_row_laws.proofs.Alike.{attach_alike}
use Rattle.base_row_laws.proofs.alike_laws.attach_node_alike.Goals as goal

pub returns : goal.returns
returns g c = λ same is. attach_alike same is
