use Rattle.base_row_laws.proofs.Trees.{distinct_step}
use Rattle.base_row_laws.proofs.domain_laws.distinct_answers.Goals as goal

pub returns : goal.returns
returns g c = λ same is. distinct_step same is
