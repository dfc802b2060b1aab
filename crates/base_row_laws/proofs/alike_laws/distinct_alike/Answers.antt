use Rattle.base_row_laws.proofs.Alike.{distinct_alike}
use Rattle.base_row_laws.proofs.alike_laws.distinct_alike.Goals as goal

pub returns : goal.returns
returns g c = λ same is. distinct_alike same is
