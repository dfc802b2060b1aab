use Rattle.base_row_laws.proofs.Nodes.{attach_meets}
use Rattle.base_row_laws.proofs.loop_laws.attach_meets.Goals as goal

pub returns : goal.returns
returns g c = λ same is. attach_meets same is
