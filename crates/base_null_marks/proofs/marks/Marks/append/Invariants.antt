use Rattle.std.proofs.Common.{◌≡◌, ◌<◌, ◌+◌, ℕ}
use Rattle.base_null_marks.specs.Marks.{has}
use Rattle.base_null_marks.proofs.marks.Marks.append.Given as goal

abbrev pub invariant-loop-k : goal.invariant-loop-k
invariant-loop-k l =
    ((i : ℕ) → i < l.n → has l.self i ≡ has l.initial.self i)
    × ((j : ℕ) → j < l.k → has l.self (l.n + j) ≡ has l.other j)
