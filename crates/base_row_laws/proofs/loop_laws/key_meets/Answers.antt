use Rattle.base_row_laws.proofs.Groups.{key_meets}
use Rattle.base_row_laws.proofs.loop_laws.key_meets.Goals as goal

pub returns : goal.returns
returns g c = λ same is. key_meets same is
