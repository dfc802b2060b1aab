-- Sets of keys that tell about longer lists.
use Rattle.std.specs.Prelude.{◌≡◌, true, ◌&&◌, ◌||◌, List, ℤ}
use Rattle.store_state.specs.Keys.{has_key, has_line}

-- the set has just the keys that are among these
abbrev pub HasSameKeys : List ℤ → List ℤ → Type 0
HasSameKeys set keys = (key : ℤ) → has_key set key ≡ has_key keys key

-- for each wanted key, the found ones tell whether it is among these
abbrev pub TellsKeys : List ℤ → List ℤ → List ℤ → Type 0
TellsKeys wanted keys found = (key : ℤ) → has_key wanted key ≡ true
    → has_key found key ≡ has_key keys key

-- for each lineitem of a wanted order, the found ones tell whether it is among these
abbrev pub TellsLines : List ℤ → List (ℤ × ℤ) → List (ℤ × ℤ) → Type 0
TellsLines wanted lines found =
    (line : ℤ × ℤ) → has_key wanted line.0 ≡ true → has_line found line ≡ has_line lines line

-- some keys, with those of these that are wanted after them
abbrev pub AddsKeys : List ℤ → List ℤ → List ℤ → List ℤ → Type 0
AddsKeys wanted keys old new =
    (key : ℤ) → has_key new key ≡ (has_key old key || (has_key wanted key && has_key keys key))

-- some lineitems, with those of these after them whose orders are wanted
abbrev pub AddsLines : List ℤ → List (ℤ × ℤ) → List (ℤ × ℤ) → List (ℤ × ℤ) → Type 0
AddsLines wanted lines old new = (line : ℤ × ℤ)
    → has_line new line ≡ (has_line old line || (has_key wanted line.0 && has_line lines line))
