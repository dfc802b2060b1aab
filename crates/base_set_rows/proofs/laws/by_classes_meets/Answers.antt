use Rattle.base_set_rows.proofs.SetRows.{by_classes_meets}
use Rattle.base_set_rows.proofs.laws.by_classes_meets.Goals as goal

pub returns : goal.returns
returns g c = λ same is. by_classes_meets same is
