use Rattle.base_row_laws.proofs.Bags.{SameBag-refl}
use Rattle.base_row_laws.proofs.bag_laws.same_bag_reflexive.Goals as goal

pub returns : goal.returns
returns g c = SameBag-refl
