use Rattle.base_row_laws.proofs.Attached.{project_reads_attached}
use Rattle.base_row_laws.proofs.move_laws.project_reads_attached.Goals as goal

pub returns : goal.returns
returns g c = project_reads_attached
