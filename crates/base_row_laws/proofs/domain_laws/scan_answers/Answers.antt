use Rattle.base_row_laws.proofs.Trees.{scan_step}
use Rattle.base_row_laws.proofs.domain_laws.scan_answers.Goals as goal

pub returns : goal.returns
returns g c = λ same is. scan_step same is
