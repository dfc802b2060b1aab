use Rattle.std.proofs.Common.{◌≡◌, ◌<◌, ℕ, true}
use Rattle.base_null_marks.specs.Marks.{has}
use Rattle.base_columns.proofs.marked_pushes.are_all_set.Given as goal

abbrev pub invariant-loop-i : goal.invariant-loop-i
invariant-loop-i l = (j : ℕ) → j < l.i → has l.marks j ≡ true
