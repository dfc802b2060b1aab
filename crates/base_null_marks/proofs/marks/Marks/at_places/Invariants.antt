use Rattle.std.proofs.Common.{◌≡◌, ◌<◌, ℕ, get_or, false}
use Rattle.std.specs.Prelude.{◌||◌, nat_le}
use Rattle.base_null_marks.specs.Marks.{has}
use Rattle.base_null_marks.proofs.marks.Marks.at_places.Given as goal

abbrev pub invariant-loop-k : goal.invariant-loop-k
invariant-loop-k l =
    ((j : ℕ) → j < l.k → has l.marks j ≡ (nat_le l.n (get_or l.places j 0) || has l.self (get_or l.places j 0)))
    × ((j : ℕ) → (j < l.k → ⊥) → has l.marks j ≡ false)
