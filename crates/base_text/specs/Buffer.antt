-- A text as a part of a buffer.
use Rattle.std.specs.Prelude.{ℕ, ◌-◌, ◌≤◌, List, take, drop, length}
use Rattle.base_text.specs.Printable.{AllPrintable}

-- the bytes between two places of a buffer
unfoldable pub part_of : List ℕ → ℕ → ℕ → List ℕ
part_of buffer start end = take (end - start) (drop start buffer)

-- the part lies within the buffer and is printable
unfoldable pub IsPart : List ℕ → ℕ → ℕ → Type 0
IsPart buffer start end = (start ≤ end)
    × ((end ≤ length buffer) × AllPrintable (part_of buffer start end))
