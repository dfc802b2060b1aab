use Rattle.base_set_rows.proofs.Counted.{union_keeps}
use Rattle.base_set_rows.proofs.laws.union_keeps.Goals as goal

pub returns : goal.returns
returns g c = λ same is. union_keeps same is
