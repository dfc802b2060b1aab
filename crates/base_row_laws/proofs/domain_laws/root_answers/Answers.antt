use Rattle.base_row_laws.proofs.Trees.{root_bag, bag_root}
use Rattle.base_row_laws.proofs.domain_laws.root_answers.Goals as goal

pub returns : goal.returns
returns g c = λ same is xs L. (root_bag same is xs L, bag_root same is xs L)
