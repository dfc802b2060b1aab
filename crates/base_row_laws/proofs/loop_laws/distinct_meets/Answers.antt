use Rattle.base_row_laws.proofs.Groups.{distinct_meets}
use Rattle.base_row_laws.proofs.loop_laws.distinct_meets.Goals as goal

pub returns : goal.returns
returns g c = λ same is. distinct_meets same is
