use Rattle.base_row_laws.proofs.Bags.{SameBag-append}
use Rattle.base_row_laws.proofs.bag_laws.append_alike.Goals as goal

pub returns : goal.returns
returns g c = λ xs us ys vs. SameBag-append
