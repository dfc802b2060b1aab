use Rattle.base_row_laws.proofs.Bags.{SameBag-trans}
use Rattle.base_row_laws.proofs.bag_laws.same_bag_transitive.Goals as goal

pub returns : goal.returns
returns g c = λ xs ys zs. SameBag-trans
