use Rattle.base_row_laws.proofs.Trees.{unnesting}
use Rattle.base_row_laws.proofs.tree_laws.unnesting.Goals as goal

pub returns : goal.returns
returns g c = λ same is. unnesting same is
