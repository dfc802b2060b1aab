use Rattle.base_row_laws.proofs.Trees.{unit_is}
use Rattle.base_row_laws.proofs.domain_laws.unit_row_is_domain.Goals as goal

pub returns : goal.returns
returns g c = λ same is. unit_is same is
