use Rattle.base_row_laws.proofs.Alike.{cross_alike}
use Rattle.base_row_laws.proofs.alike_laws.cross_alike.Goals as goal

pub returns : goal.returns
returns g c = cross_alike
