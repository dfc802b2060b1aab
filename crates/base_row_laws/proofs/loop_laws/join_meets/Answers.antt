use Rattle.base_row_laws.proofs.Nodes.{join_meets}
use Rattle.base_row_laws.proofs.loop_laws.join_meets.Goals as goal

pub returns : goal.returns
returns g c = λ same is. join_meets same is
