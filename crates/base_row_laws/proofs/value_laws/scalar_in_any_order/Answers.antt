use Rattle.base_row_laws.proofs.Values.{scalar_bag}
use Rattle.base_row_laws.proofs.value_laws.scalar_in_any_order.Goals as goal

pub returns : goal.returns
returns g c = λ same is. scalar_bag same is
