use Rattle.std.proofs.Common.{◌≡◌, take, map}
use Rattle.base_value.specs.Truth.{standing_rank}
use Rattle.base_columns.specs.Bags.{bag_rows}
use Rattle.base_columns.proofs.bag.whole_standings.Given as goal

abbrev pub invariant-loop-batch : goal.invariant-loop-batch
invariant-loop-batch l = map standing_rank l.whole ≡ map (λ r. r.standing) (bag_rows (take l.batch-index l.batches))
