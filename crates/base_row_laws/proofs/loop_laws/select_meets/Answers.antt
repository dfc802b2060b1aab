use Rattle.base_row_laws.proofs.Rows.{select_meets}
use Rattle.base_row_laws.proofs.loop_laws.select_meets.Goals as goal

pub returns : goal.returns
returns g c = λ same is. select_meets same is
