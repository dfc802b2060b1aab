use Rattle.base_set_rows.proofs.Taken.{by_numbers}
use Rattle.base_set_rows.proofs.laws.by_numbers.Goals as goal

pub returns : goal.returns
returns g c = λ same is. by_numbers same is
