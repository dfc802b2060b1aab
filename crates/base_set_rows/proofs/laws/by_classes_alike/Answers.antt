use Rattle.base_set_rows.proofs.SetRows.{by_classes_alike}
use Rattle.base_set_rows.proofs.laws.by_classes_alike.Goals as goal

pub returns : goal.returns
returns g c = λ same is. by_classes_alike same is
