use Rattle.std.proofs.Common.{◌≡◌, take}
use Rattle.exec_ordered_rows.proofs.answer.shares.Given as goal

abbrev pub invariant-loop-batch : goal.invariant-loop-batch
invariant-loop-batch l = l.shares.items ≡ take l.batch-index l.batches
