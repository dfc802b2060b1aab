use Rattle.std.proofs.Common.{◌≡◌, map, take}
use Rattle.expr_scalar.specs.Meaning.{value}
use Rattle.base_columns.specs.Bags.{bag_rows}
use Rattle.exec_hash_group.proofs.group_by.argument_column.Given as goal

abbrev pub invariant-loop-batch : goal.invariant-loop-batch
invariant-loop-batch l = l.column ≡ map (λ r. value l.e r.values) (bag_rows (take l.batch-index l.batches))
