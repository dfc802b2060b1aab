use Rattle.base_set_rows.proofs.Operations.{select_below_set_rows}
use Rattle.base_set_rows.proofs.laws.select_below_set_rows.Goals as goal

pub returns : goal.returns
returns g c = λ same is. select_below_set_rows same is
