use Rattle.base_row_laws.proofs.Begins.{node_rows_begin}
use Rattle.base_row_laws.proofs.tree_laws.node_rows_begin.Goals as goal

pub returns : goal.returns
returns g c = λ same is null tables T n ds dom. node_rows_begin same is null tables n ds dom T
