use Rattle.std.proofs.Common.{◌≡◌, ◌<◌, ℕ, length, get_or}
use Rattle.std.specs.Prelude.{bit_or}
use Rattle.base_null_marks.proofs.marks.either_words.Given as goal

abbrev pub invariant-loop-k : goal.invariant-loop-k
invariant-loop-k l =
    (length l.words.items ≡ l.k) × ((j : ℕ) → j < l.k → get_or l.words.items j 0 ≡ bit_or (get_or l.a j 0) (get_or l.b j 0))
