use Rattle.base_row_laws.proofs.Trees.{closed_meets}
use Rattle.base_row_laws.proofs.loop_laws.closed_meets.Goals as goal

pub returns : goal.returns
returns g c = λ same is. closed_meets same is
