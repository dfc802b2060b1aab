use Rattle.base_row_laws.proofs.Alike.{total_alike}
use Rattle.base_row_laws.proofs.alike_laws.total_alike.Goals as goal

pub returns : goal.returns
returns g c = total_alike
