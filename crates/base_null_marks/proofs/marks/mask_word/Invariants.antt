use Rattle.std.proofs.Common.{◌≡◌, ℕ, length, get_or, cond}
use Rattle.base_null_marks.specs.Marks.{in_word}
use Rattle.base_null_marks.proofs.marks.mask_word.Given as goal

abbrev pub invariant-loop-rest : goal.invariant-loop-rest
invariant-loop-rest g l =
    (length l.items.items ≡ length l.initial.items.items)
    × ((k : ℕ) → cond (in_word l.rest l.start k) l.other (get_or l.items.items k l.other)
    ≡ cond (in_word l.initial.rest l.start k) l.other (get_or l.initial.items.items k l.other))

abbrev pub decreases-loop-rest : goal.decreases-loop-rest
decreases-loop-rest g l = l.rest
