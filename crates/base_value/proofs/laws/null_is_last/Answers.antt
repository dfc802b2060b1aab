use Rattle.base_value.proofs.Orders.{null_is_last}
use Rattle.base_value.proofs.laws.null_is_last.Goals as goal

pub returns : goal.returns
returns c = null_is_last
