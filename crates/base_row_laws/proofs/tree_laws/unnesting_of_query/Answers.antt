use Rattle.base_row_laws.proofs.Trees.{closed}
use Rattle.base_row_laws.proofs.tree_laws.unnesting_of_query.Goals as goal

pub returns : goal.returns
returns g c = λ same is. closed same is
