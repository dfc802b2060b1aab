use Rattle.base_row_laws.proofs.Tables.{entries_made}
use Rattle.base_row_laws.proofs.bag_laws.entries_made.Goals as goal

pub returns : goal.returns
returns g c = λ same is. entries_made same is
