use Rattle.base_set_rows.proofs.Counted.{by_classes_standings}
use Rattle.base_set_rows.proofs.laws.by_classes_standings.Goals as goal

pub returns : goal.returns
returns g c = λ same is. by_classes_standings same is
