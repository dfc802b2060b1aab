use Rattle.base_row_laws.proofs.Alike.{select_alike}
use Rattle.base_row_laws.proofs.alike_laws.select_alike.Goals as goal

pub returns : goal.returns
returns g c = select_alike
