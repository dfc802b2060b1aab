use Rattle.base_value.proofs.Orders.{row_ties}
use Rattle.base_value.proofs.laws.ties_are_identical.Goals as goal

pub returns : goal.returns
returns c = row_ties
