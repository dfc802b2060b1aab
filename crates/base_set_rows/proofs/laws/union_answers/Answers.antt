use Rattle.base_set_rows.proofs.SetRows.{union_answers}
use Rattle.base_set_rows.proofs.laws.union_answers.Goals as goal

pub returns : goal.returns
returns g c = λ same is. union_answers same is
