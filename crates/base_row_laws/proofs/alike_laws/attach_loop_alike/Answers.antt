use Rattle.base_row_laws.proofs.Alike.{attach_loop_alike}
use Rattle.base_row_laws.proofs.alike_laws.attach_loop_alike.Goals as goal

pub returns : goal.returns
returns g c = attach_loop_alike
