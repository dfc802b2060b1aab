use Rattle.base_row_laws.proofs.Standings.{domain_node_stands}
use Rattle.base_row_laws.proofs.standing_laws.domain_node_stands.Goals as goal

pub returns : goal.returns
returns g c = λ same. domain_node_stands same
