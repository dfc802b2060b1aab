use Rattle.base_row_laws.proofs.Domains.{domain_meets}
use Rattle.base_row_laws.proofs.domain_laws.left_rows_met.Goals as goal

pub returns : goal.returns
returns g c = λ same is. domain_meets same is
