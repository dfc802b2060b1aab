use Rattle.base_row_laws.proofs.OfBags.{OfBag-run}
use Rattle.base_row_laws.proofs.value_laws.fold_in_any_order.Goals as goal

pub returns : goal.returns
returns g c = λ same is step s ex. OfBag-run same is step ex s
