use Rattle.base_row_laws.proofs.Bags.{SameBag-sym}
use Rattle.base_row_laws.proofs.bag_laws.same_bag_symmetric.Goals as goal

pub returns : goal.returns
returns g c = λ xs ys. SameBag-sym
