use Rattle.base_row_laws.proofs.Tables.{same_sums}
use Rattle.base_row_laws.proofs.bag_laws.same_sums.Goals as goal

pub returns : goal.returns
returns g c = same_sums
