use Rattle.base_row_laws.proofs.Local.{local_answers}
use Rattle.base_row_laws.proofs.domain_laws.local_answers.Goals as goal

pub returns : goal.returns
returns g c = λ same is. local_answers same is
