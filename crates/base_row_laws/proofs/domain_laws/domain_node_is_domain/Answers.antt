use Rattle.base_row_laws.proofs.Domains.{domain_is}
use Rattle.base_row_laws.proofs.domain_laws.domain_node_is_domain.Goals as goal

pub returns : goal.returns
returns g c = λ same is. domain_is same is
