use Rattle.base_row_laws.proofs.Trees.{unnests}
use Rattle.base_row_laws.proofs.tree_laws.unnesting_row_by_row.Goals as goal

pub returns : goal.returns
returns g c = λ same is. unnests same is
