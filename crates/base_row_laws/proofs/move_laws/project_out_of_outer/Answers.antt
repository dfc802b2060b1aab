use Rattle.base_row_laws.proofs.Attached.{project_out_of_outer}
use Rattle.base_row_laws.proofs.move_laws.project_out_of_outer.Goals as goal

pub returns : goal.returns
returns g c = λ f g nulls c. project_out_of_outer f g c nulls
