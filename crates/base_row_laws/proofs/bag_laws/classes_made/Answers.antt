use Rattle.base_row_laws.proofs.Tables.{classes_from}
use Rattle.base_row_laws.proofs.bag_laws.classes_made.Goals as goal

pub returns : goal.returns
returns g c = λ same is. classes_from same is
