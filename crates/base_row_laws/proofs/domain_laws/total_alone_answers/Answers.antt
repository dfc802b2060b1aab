use Rattle.base_row_laws.proofs.Trees.{total_alone}
use Rattle.base_row_laws.proofs.domain_laws.total_alone_answers.Goals as goal

pub returns : goal.returns
returns g c = λ same is aggregates xs L. total_alone same is aggregates xs L
