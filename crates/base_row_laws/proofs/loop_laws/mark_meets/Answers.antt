use Rattle.base_row_laws.proofs.Nodes.{attach_meets}
use Rattle.base_row_laws.specs.Operators.{mark_of}
use Rattle.base_row_laws.proofs.Values.{mark_bag}
use Rattle.base_row_laws.proofs.loop_laws.mark_meets.Goals as goal

pub returns : goal.returns
returns g c = λ same is pick write c d xs ys ts R. attach_meets same is pick (mark_of write c) d xs ys ts R (mark_bag write c)
