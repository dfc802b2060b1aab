use Rattle.base_row_laws.proofs.Bags.{loops_exchanged}
use Rattle.base_row_laws.proofs.bag_laws.loops_exchanged.Goals as goal

pub returns : goal.returns
returns g c = loops_exchanged
