use Rattle.std.proofs.Common.{◌≡◌, ◌<◌, ℕ, false}
use Rattle.base_null_marks.specs.Marks.{has}
use Rattle.base_null_marks.proofs.marks.Marks.first.Given as goal

abbrev pub invariant-loop-i : goal.invariant-loop-i
invariant-loop-i l =
    ((j : ℕ) → j < l.i → has l.marks j ≡ has l.self j)
    × ((j : ℕ) → (j < l.i → ⊥) → has l.marks j ≡ false)
