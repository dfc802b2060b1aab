use Rattle.base_row_laws.proofs.Trees.{outer_step}
use Rattle.base_row_laws.proofs.domain_laws.outer_answers.Goals as goal

pub returns : goal.returns
returns g c = λ same is null side nulls on n ds xs ys L R s. outer_step same is null side nulls on n ds xs ys L R s.domain s.left s.right
