use Rattle.base_row_laws.proofs.Tables.{from_permutation}
use Rattle.base_row_laws.proofs.bag_laws.same_bag_from_permutation.Goals as goal

pub returns : goal.returns
returns g c = from_permutation
