use Rattle.base_row_laws.proofs.Local.{local_meets}
use Rattle.base_row_laws.proofs.loop_laws.local_meets.Goals as goal

pub returns : goal.returns
returns g c = λ same is. local_meets same is
