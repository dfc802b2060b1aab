use Rattle.base_set_rows.proofs.Counted.{union_alike}
use Rattle.base_set_rows.proofs.laws.union_alike.Goals as goal

pub returns : goal.returns
returns g c = λ same is. union_alike same is
