use Rattle.base_set_rows.proofs.SetRows.{union_meets}
use Rattle.base_set_rows.proofs.laws.union_meets.Goals as goal

pub returns : goal.returns
returns g c = λ same is. union_meets same is
