use Rattle.base_row_laws.proofs.Attached.{attached_read_and_dropped}
use Rattle.base_row_laws.proofs.move_laws.attached_read_and_dropped.Goals as goal

pub returns : goal.returns
returns g c = attached_read_and_dropped
