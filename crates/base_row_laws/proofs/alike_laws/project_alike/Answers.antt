use Rattle.base_row_laws.proofs.Alike.{project_alike}
use Rattle.base_row_laws.proofs.alike_laws.project_alike.Goals as goal

pub returns : goal.returns
returns g c = project_alike
