use Rattle.base_row_laws.proofs.Attached.{select_reads_attached}
use Rattle.base_row_laws.proofs.move_laws.select_reads_attached.Goals as goal

pub returns : goal.returns
returns g c = select_reads_attached
