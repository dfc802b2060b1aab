use Rattle.base_row_laws.proofs.Attached.{project_out_of_attach}
use Rattle.base_row_laws.proofs.move_laws.project_out_of_attach.Goals as goal

pub returns : goal.returns
returns g c = project_out_of_attach
