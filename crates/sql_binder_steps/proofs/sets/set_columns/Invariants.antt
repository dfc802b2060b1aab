use Rattle.std.proofs.Common.{◌≡◌, ◌+◌, length}
use Rattle.sql_binder_steps.specs.Sets as spec
use Rattle.sql_binder_steps.proofs.sets.set_columns.Given as goal

abbrev pub invariant-columns : goal.invariant-columns
invariant-columns l = record {
  counted : l.at + length l.ls ≡ length l.left;
  same : spec.set_columns l.left l.right ≡ spec.columns_from l.done l.at l.ls l.rs;
}

abbrev pub decreases-columns : goal.decreases-columns
decreases-columns l = length l.ls
