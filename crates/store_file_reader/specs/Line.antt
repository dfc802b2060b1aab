-- The row of a line.
use Rattle.std.specs.Prelude.{◌≡◌, ◌⊎◌, ◌<◌, ℕ, ◌+◌, ◌-◌, Bool, ◌&&◌, ◌||◌, ◌==◌, nat_eq, List, []}
use Rattle.std.specs.Prelude.{◌∷◌, length, take, count_by, Result, Ok, Err, if◌then◌else◌}
use Rattle.std.specs.List.{before_first, after_first, ends_with}
use Rattle.base_refusals.specs.declared.line.LineFault.{LineFault}
use Rattle.base_refusals.specs.declared.line.LineFault.TheVariants.{FieldCount}
use Rattle.base_value.specs.declared.value.Value.{Value}
use Rattle.base_schema.specs.declared.column.LineColumn.{LineColumn}
use Rattle.store_file_reader.specs.Field.{column_value}

-- the bytes without that one at their end, if it stands there
abbrev pub without_end : ℕ → List ℕ → List ℕ
without_end byte text = if ends_with nat_eq text (byte ∷ []) then take (length text - 1) text else
    text

-- a line without its LF, and without one CR directly before that or before the text's end
abbrev pub line_text : List ℕ → List ℕ
line_text line = without_end 13 (without_end 10 line)

-- the byte of a bar
abbrev pub is_bar : ℕ → Bool
is_bar byte = byte == 124

-- a line of n fields: n bars with nothing after the last, or one bar fewer
abbrev pub has_fields : ℕ → List ℕ → Bool
has_fields columns line =
    (count_by is_bar line + 1 == columns)
    || ((count_by is_bar line == columns) && ends_with nat_eq line (124 ∷ []))

-- a line's columns were cut at `bars` bars, and this rest stands after them: one bar fewer than
-- columns, or as many bars and no rest
abbrev pub IsWholeCut : ℕ → ℕ → List ℕ → Type 0
IsWholeCut columns bars rest = (bars + 1 ≡ columns) ⊎ ((0 < bars) × (bars ≡ columns) × (rest ≡ []))

-- the value of a field before those of the fields after it: the first fault from the left counts
abbrev pub put_first : Result Value LineFault → Result (List Value) LineFault
    → Result (List Value) LineFault
put_first (Err fault) more = Err fault
put_first (Ok v) (Err fault) = Err fault
put_first (Ok v) (Ok vs) = Ok (v ∷ vs)

-- a value for each column, of the bytes up to the next bar
abbrev pub values_of : List LineColumn → List ℕ → Result (List Value) LineFault
values_of [] text = Ok []
values_of (column ∷ columns) text =
    put_first (column_value column (before_first is_bar text))
    (values_of columns (after_first is_bar text))

-- the row of a line of these columns, or what is wrong with the line
abbrev pub row_of : List LineColumn → List ℕ → Result (List Value) LineFault
row_of columns line = if has_fields (length columns) line then values_of columns line else Err
    FieldCount
