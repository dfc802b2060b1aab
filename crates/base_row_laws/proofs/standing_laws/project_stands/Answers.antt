use Rattle.base_row_laws.proofs.Standings.{project_stands}
use Rattle.base_row_laws.proofs.standing_laws.project_stands.Goals as goal

pub returns : goal.returns
returns g c = project_stands
