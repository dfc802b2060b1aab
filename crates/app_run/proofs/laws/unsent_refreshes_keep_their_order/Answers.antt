use Rattle.app_run.proofs.UnsentOrders.{unsent_law}
use Rattle.app_run.proofs.laws.unsent_refreshes_keep_their_order.Goals as goal

pub returns : goal.returns
returns c = unsent_law
