use Rattle.base_row_laws.proofs.Alike.{domain_alike}
use Rattle.base_row_laws.proofs.alike_laws.domain_node_alike.Goals as goal

pub returns : goal.returns
returns g c = λ same is. domain_alike same is
