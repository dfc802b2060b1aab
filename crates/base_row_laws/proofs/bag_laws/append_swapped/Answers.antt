use Rattle.base_row_laws.proofs.Bags.{SameBag-append_comm}
use Rattle.base_row_laws.proofs.bag_laws.append_swapped.Goals as goal

pub returns : goal.returns
returns g c = SameBag-append_comm
