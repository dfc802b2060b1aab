use Rattle.std.proofs.Common.{◌≡◌, ◌<◌, ◌*◌, ℕ, length, get_or, cond}
use Rattle.base_null_marks.specs.Marks.{has}
use Rattle.base_null_marks.proofs.marks.masked.Given as goal

abbrev pub invariant-loop-w : goal.invariant-loop-w
invariant-loop-w g l =
    (length l.items.items ≡ length l.initial.items.items)
    × ((k : ℕ) → k < l.w * 64 → get_or l.items.items k l.other ≡ cond (has l.marks k) l.other (get_or l.initial.items.items k l.other))
    × ((k : ℕ) → (k < l.w * 64 → ⊥) → get_or l.items.items k l.other ≡ get_or l.initial.items.items k l.other)
