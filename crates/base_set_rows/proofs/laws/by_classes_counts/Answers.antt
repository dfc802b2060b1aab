use Rattle.base_set_rows.proofs.Counted.{by_classes_counts}
use Rattle.base_set_rows.proofs.laws.by_classes_counts.Goals as goal

pub returns : goal.returns
returns g c = λ same is. by_classes_counts same is
