use Rattle.base_set_rows.proofs.Operations.{set_rows_answer}
use Rattle.base_set_rows.proofs.laws.set_rows_answer.Goals as goal

pub returns : goal.returns
returns g c = λ same is. set_rows_answer same is
