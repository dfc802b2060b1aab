use Rattle.exec_hash_group.proofs.Grouped.{distinct_by_numbers}
use Rattle.exec_hash_group.proofs.laws.distinct_by_numbers.Goals as goal

pub returns : goal.returns
returns g c = distinct_by_numbers
