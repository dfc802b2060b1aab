use Rattle.base_row_laws.proofs.Trees.{join_step}
use Rattle.base_row_laws.proofs.domain_laws.join_answers.Goals as goal

pub returns : goal.returns
returns g c = λ same is null side on n ds xs ys L R s. join_step same is null side on n ds xs ys L R s.domain s.left s.right
