use Rattle.base_row_laws.proofs.Trees.{group_step}
use Rattle.base_row_laws.proofs.domain_laws.group_answers.Goals as goal

pub returns : goal.returns
returns g c = λ same is grouping aggregates n ds xs L bag. group_step same is grouping aggregates bag n ds xs L
