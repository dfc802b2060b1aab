use Rattle.base_row_laws.proofs.OfBags.{OfBag-each_once}
use Rattle.base_row_laws.proofs.value_laws.of_distinct_in_any_order.Goals as goal

pub returns : goal.returns
returns g c = λ same is. OfBag-each_once same is
