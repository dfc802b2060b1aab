use Rattle.base_row_laws.proofs.Trees.{select_step}
use Rattle.base_row_laws.proofs.domain_laws.select_answers.Goals as goal

pub returns : goal.returns
returns g c = λ same is. select_step same is
