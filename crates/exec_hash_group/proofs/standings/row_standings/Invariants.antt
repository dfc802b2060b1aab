use Rattle.std.proofs.Common.{◌≡◌, take}
use Rattle.base_columns.specs.Bags.{bag_rows}
use Rattle.exec_hash_group.specs.Standings.{ranks, row_ranks}
use Rattle.exec_hash_group.proofs.standings.row_standings.Given as goal

abbrev pub invariant-loop-batch : goal.invariant-loop-batch
invariant-loop-batch l = ranks l.standings.items ≡ row_ranks (bag_rows (take l.batch-index l.batches))
