use Rattle.base_row_laws.proofs.Begins.{whole_node}
use Rattle.base_row_laws.proofs.tree_laws.unnesting_of_node.Goals as goal

pub returns : goal.returns
returns g c = λ same is null tables T n ds dom. whole_node same is null tables n ds dom T
