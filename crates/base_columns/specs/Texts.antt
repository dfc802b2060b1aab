-- Texts that lie one after the other in one buffer of bytes.
use Rattle.std.specs.Prelude.{ℕ, ◌+◌, ◌-◌, ◌≤◌, List, [], ◌∷◌, take, drop, length}
use Rattle.std.specs.Prelude.{slice_index_or}
use Rattle.std.specs.List.{All}
use Rattle.base_text.specs.Printable.{AllPrintable}
use Rattle.base_columns.specs.declared.texts.Buffer.{Buffer}
use Rattle.base_columns.specs.declared.texts.Buffer.TheVariants.{Own, Shared}

-- the bytes of a buffer
abbrev pub buffer_bytes : Buffer → List ℕ
buffer_bytes (Own bytes) = bytes.items
buffer_bytes (Shared text) = text

-- the bytes between two places
abbrev pub cut : List ℕ → ℕ → ℕ → List ℕ
cut bytes start end = take (end - start) (drop start bytes)

-- the texts that begin at that place and end at these
unfoldable pub texts_between : List ℕ → ℕ → List ℕ → List (List ℕ)
texts_between bytes start [] = []
texts_between bytes start (end ∷ ends) = cut bytes start end ∷ texts_between bytes end ends

-- no text ends before it begins, nor after the bytes
unfoldable pub AreEnds : ℕ → List ℕ → ℕ → Type 0
AreEnds start [] n = start ≤ n
AreEnds start (end ∷ ends) n = (start ≤ end) × AreEnds end ends n

-- where the text of a place begins
abbrev pub start_of : List ℕ → ℕ → ℕ
start_of ends i = slice_index_or (0 ∷ ends) i 0

-- the texts that end at these places
unfoldable pub texts_of : List ℕ → List ℕ → List (List ℕ)
texts_of bytes ends = texts_between bytes 0 ends

-- the bytes and the ends are those of printable texts
unfoldable pub AreTexts : List ℕ → List ℕ → Type 0
AreTexts bytes ends = AreEnds 0 ends (length bytes) × All AllPrintable (texts_of bytes ends)

-- where texts end that lie one after the other from a place on
unfoldable pub ends_of : ℕ → List (List ℕ) → List ℕ
ends_of start [] = []
ends_of start (text ∷ texts) = (start + length text) ∷ ends_of (start + length text) texts
