use Rattle.base_row_laws.proofs.Below.{select_below_group}
use Rattle.base_row_laws.proofs.move_laws.select_below_group.Goals as goal

pub returns : goal.returns
returns g c = select_below_group
