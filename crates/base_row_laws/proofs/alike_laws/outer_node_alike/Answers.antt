use Rattle.base_row_laws.proofs.Alike.{outer_alike}
use Rattle.base_row_laws.proofs.alike_laws.outer_node_alike.Goals as goal

pub returns : goal.returns
returns g c = λ same is pick nulls c. outer_alike same is pick c nulls
