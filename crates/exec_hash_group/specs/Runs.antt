-- Keys that come in order, so that equal ones stand together.
use Rattle.std.specs.Prelude.{ℕ, ℤ, pos, ◌<◌, ◌≤◌, ◌≤ℤ◌, List, length, slice_index_or}

-- no number is above one after it
abbrev pub Ascend : List ℤ → Type 0
Ascend keys = (i j : ℕ) → i ≤ j → j < length keys
    → slice_index_or keys i (pos 0) ≤ℤ slice_index_or keys j (pos 0)
