use Rattle.base_row_laws.proofs.Below.{select_below_distinct}
use Rattle.base_row_laws.proofs.move_laws.select_below_distinct.Goals as goal

pub returns : goal.returns
returns g c = select_below_distinct
