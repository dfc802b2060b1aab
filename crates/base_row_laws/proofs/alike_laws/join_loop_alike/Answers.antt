use Rattle.base_row_laws.proofs.Alike.{join_loop_alike}
use Rattle.base_row_laws.proofs.alike_laws.join_loop_alike.Goals as goal

pub returns : goal.returns
returns g c = join_loop_alike
