use Rattle.base_row_laws.proofs.Domains.{under_meets}
use Rattle.base_row_laws.proofs.domain_laws.under_meets.Goals as goal

pub returns : goal.returns
returns g c = λ same is. under_meets same is
