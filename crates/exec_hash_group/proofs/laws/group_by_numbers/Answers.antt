use Rattle.exec_hash_group.proofs.Grouped.{group_by_numbers}
use Rattle.exec_hash_group.proofs.laws.group_by_numbers.Goals as goal

pub returns : goal.returns
returns g c = group_by_numbers
