-- The texts of a refresh: rows and keys as the lines of files.
use Rattle.std.specs.Prelude.{ℕ, ℤ, ◌/◌, ◌%◌, List, [], ◌∷◌, ◌++◌}
use Rattle.std.specs.List.{flat_map}
use Rattle.base_decimal.specs.Written.{decimal_written, last_digits}
use Rattle.base_value.specs.declared.value.Value.{Value}
use Rattle.base_value.specs.declared.value.Value.TheVariants.{Fault, Number, Text, Date, Null}

-- a date as YYYY-MM-DD
abbrev pub date_written : ℕ → List ℕ
date_written date =
    last_digits 4 (date / 10000)
    ++ 45 ∷ (last_digits 2 (date / 100 % 100) ++ 45 ∷ last_digits 2 (date % 100))

-- a value as a field has it: a number with all the places of its scale, a text as it is, null as
-- the two bytes \N; a fault is in no field
abbrev pub field_written : Value → List ℕ
field_written (Fault f) = []
field_written (Number scale c) = decimal_written c scale
field_written (Text text) = text
field_written (Date date) = date_written date
field_written Null = 92 ∷ 78 ∷ []

-- the fields of a line, a bar after each
abbrev pub fields_written : List Value → List ℕ
fields_written values = flat_map (λ v. field_written v ++ 124 ∷ []) values

-- the line of a row
abbrev pub row_written : List Value → List ℕ
row_written values = fields_written values ++ 10 ∷ []

-- the lines of rows
abbrev pub rows_text : List (List Value) → List ℕ
rows_text rows = flat_map row_written rows

-- the lines of keys, one key each
abbrev pub keys_text : List ℤ → List ℕ
keys_text keys = flat_map (λ key. decimal_written key 0 ++ 10 ∷ []) keys
