use Rattle.base_row_laws.proofs.Nodes.{attach_meets}
use Rattle.base_row_laws.specs.Operators.{scalar_of}
use Rattle.base_row_laws.proofs.Values.{scalar_bag}
use Rattle.base_row_laws.proofs.loop_laws.single_meets.Goals as goal

pub returns : goal.returns
returns g c = λ same is pick write fault_rank i d xs ys ts R. attach_meets same is pick (λ x us. scalar_of write fault_rank i us) d xs ys ts R (λ x. scalar_bag same is write fault_rank i)
