use Rattle.base_set_rows.proofs.Counted.{union_stands}
use Rattle.base_set_rows.proofs.laws.union_stands.Goals as goal

pub returns : goal.returns
returns g c = λ same is. union_stands same is
