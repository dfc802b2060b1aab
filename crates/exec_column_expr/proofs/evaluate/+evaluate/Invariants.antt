use Rattle.std.proofs.Common.{◌≡◌, ◌-◌, drop, length, replicate}
use Rattle.base_value.specs.declared.truth.Standing.TheVariants.{AtTrue}
use Rattle.base_value.specs.declared.truth.Truth.TheVariants.{False, Stands}
use Rattle.exec_column_expr.specs.Lanes.{over}
use Rattle.exec_column_expr.specs.Rows.{operated_over, chosen_over, least_over, greatest_over, equal_over}
use Rattle.exec_column_expr.proofs.evaluate.+evaluate.Given as goal

abbrev pub invariant-operated-loop-operation : goal.invariant-operated-loop-operation
invariant-operated-loop-operation l = record {
  is : operated_over (over l.n l.x) (drop l.operation-index l.operations) l.batch.rows ≡ operated_over (over l.n l.fn.first) l.operations l.batch.rows;
  long : length (over l.n l.x) ≡ l.n;
}

abbrev pub invariant-chosen-loop-i : goal.invariant-chosen-loop-i
invariant-chosen-loop-i l = record {
  is : over l.n l.x ≡ chosen_over (drop (length l.branches - l.i) l.branches) (over l.n l.fn.rest) l.batch.rows;
  long : length (over l.n l.x) ≡ l.n;
}

abbrev pub invariant-least-loop-e : goal.invariant-least-loop-e
invariant-least-loop-e l = record {
  is : least_over l.truths.items (drop l.e-index l.es) l.batch.rows ≡ least_over (replicate l.n (Stands AtTrue)) l.es l.batch.rows;
  long : length l.truths.items ≡ l.n;
}

abbrev pub invariant-greatest-loop-e : goal.invariant-greatest-loop-e
invariant-greatest-loop-e l = record {
  is : greatest_over l.truths.items (drop l.e-index l.es) l.batch.rows ≡ greatest_over (replicate l.n False) l.es l.batch.rows;
  long : length l.truths.items ≡ l.n;
}

abbrev pub invariant-equal_to_any-loop-e : goal.invariant-equal_to_any-loop-e
invariant-equal_to_any-loop-e l = record {
  is : equal_over (over l.n l.x) l.truths.items (drop l.e-index l.es) l.batch.rows ≡ equal_over (over l.n l.x) (replicate l.n False) l.es l.batch.rows;
  long : length l.truths.items ≡ l.n;
}
