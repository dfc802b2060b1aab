use Rattle.base_row_laws.proofs.Trees.{attach_step}
use Rattle.base_row_laws.proofs.domain_laws.attach_answers.Goals as goal

pub returns : goal.returns
returns g c = λ same is null side value n ds xs ys L R bag s. attach_step same is null side value bag n ds xs ys L R s.domain s.left s.right
