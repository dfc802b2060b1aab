use Rattle.std.proofs.Common.{◌≡◌, ◌+◌, length}
use Rattle.sql_binder_steps.specs.Parts as spec
use Rattle.sql_binder_steps.proofs.lists.star.Given as goal

abbrev pub invariant-columns : goal.invariant-columns
invariant-columns l = record {
  counted : l.at + length l.left ≡ length l.columns;
  same : spec.star l.keys l.columns ≡ spec.star_from l.keys l.done l.at l.left;
}

abbrev pub decreases-columns : goal.decreases-columns
decreases-columns l = length l.left
