use Rattle.base_row_laws.proofs.Nodes.{outer_meets}
use Rattle.base_row_laws.proofs.loop_laws.outer_meets.Goals as goal

pub returns : goal.returns
returns g c = λ same is pick nulls c d. outer_meets same is pick c d nulls
