use Rattle.base_row_laws.proofs.Alike.{fill_alike}
use Rattle.base_row_laws.proofs.alike_laws.fill_alike.Goals as goal

pub returns : goal.returns
returns g c = λ same is. fill_alike same is
