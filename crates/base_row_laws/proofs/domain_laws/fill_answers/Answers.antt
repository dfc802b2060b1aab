use Rattle.base_row_laws.proofs.Domains.{fill_meets}
use Rattle.base_row_laws.proofs.domain_laws.fill_answers.Goals as goal

pub returns : goal.returns
returns g c = λ same is. fill_meets same is
