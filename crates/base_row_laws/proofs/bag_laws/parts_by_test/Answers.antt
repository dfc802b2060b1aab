use Rattle.base_row_laws.proofs.Bags.{parts_by_test}
use Rattle.base_row_laws.proofs.bag_laws.parts_by_test.Goals as goal

pub returns : goal.returns
returns g c = parts_by_test
