use Rattle.base_row_laws.proofs.Alike.{outer_loop_alike}
use Rattle.base_row_laws.proofs.alike_laws.outer_loop_alike.Goals as goal

pub returns : goal.returns
returns g c = outer_loop_alike
