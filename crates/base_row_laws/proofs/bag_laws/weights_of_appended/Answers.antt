use Rattle.base_row_laws.proofs.OfBags.{top-append, bottom-append}
use Rattle.base_row_laws.proofs.Bags.{weigh-append}
use Rattle.base_row_laws.proofs.bag_laws.weights_of_appended.Goals as goal

pub returns : goal.returns
returns g c = λ h n xs ys. (weigh-append h xs ys, top-append h xs ys, bottom-append n h xs ys)
