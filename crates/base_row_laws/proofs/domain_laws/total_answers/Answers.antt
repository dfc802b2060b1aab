use Rattle.base_row_laws.proofs.Trees.{total_step}
use Rattle.base_row_laws.proofs.domain_laws.total_answers.Goals as goal

pub returns : goal.returns
returns g c = λ same is aggregates n ds xs L bag. total_step same is aggregates bag n ds xs L
