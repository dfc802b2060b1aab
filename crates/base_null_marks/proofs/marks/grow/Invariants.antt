use Rattle.std.proofs.Common.{◌≡◌, ℕ, length}
use Rattle.base_null_marks.specs.Marks.{is_marked}
use Rattle.base_null_marks.proofs.marks.grow.Given as goal

abbrev pub invariant-loop-k : goal.invariant-loop-k
invariant-loop-k l = (length l.words.items ≡ l._k) × ((i : ℕ) → is_marked l.words.items i ≡ is_marked l.initial.words.items i)
