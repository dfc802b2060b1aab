use Rattle.base_row_laws.proofs.Groups.{group_meets}
use Rattle.base_row_laws.proofs.loop_laws.group_meets.Goals as goal

pub returns : goal.returns
returns g c = λ same is. group_meets same is
