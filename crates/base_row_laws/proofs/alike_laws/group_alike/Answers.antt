use Rattle.base_row_laws.proofs.Alike.{group_alike}
use Rattle.base_row_laws.proofs.alike_laws.group_alike.Goals as goal

pub returns : goal.returns
returns g c = λ same is. group_alike same is
