use Rattle.base_row_laws.proofs.Domains.{domain_alone}
use Rattle.base_row_laws.proofs.domain_laws.one_row_answers.Goals as goal

pub returns : goal.returns
returns g c = λ same is n ds dom. domain_alone same is n ds dom
