use Rattle.std.proofs.Common.{◌≡◌}
use Rattle.base_columns.specs.Bags.{bag_rows}
use Rattle.base_columns.specs.Batches.{first_columns}
use Rattle.base_columns.proofs.bag.whole_columns.Given as goal

abbrev pub invariant-loop-j : goal.invariant-loop-j
invariant-loop-j l = l.columns.items ≡ first_columns (bag_rows l.batches) l.j
