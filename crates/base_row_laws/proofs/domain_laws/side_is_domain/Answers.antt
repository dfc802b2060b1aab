use Rattle.base_row_laws.proofs.Trees.{side_is}
use Rattle.base_row_laws.proofs.domain_laws.side_is_domain.Goals as goal

pub returns : goal.returns
returns g c = λ same is. side_is same is
