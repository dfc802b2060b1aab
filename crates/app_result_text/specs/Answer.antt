-- An answer as it is printed.
use Rattle.std.specs.Prelude.{ℕ, ◌/◌, ◌%◌, List, [], ◌∷◌, ◌++◌, Bool, true, false, codes, decimal}
use Rattle.std.specs.Prelude.{if◌then◌else◌, ◌||◌, ◌==◌}
use Rattle.std.specs.List.{flat_map, list_all}
use Rattle.base_decimal.specs.Written.{decimal_written, last_digits}
use Rattle.base_value.specs.declared.value.Value.{Value}
use Rattle.base_value.specs.declared.value.Value.TheVariants.{Fault, Number, Text, Date, Null}
use Rattle.app_result_text.specs.Lines.{line_start}

-- the line before an answer: the statement's number, the version over which it was asked, and how
-- many rows follow
abbrev pub header : ℕ → ℕ → ℕ → List ℕ
header statement version rows = line_start statement version ++ codes " rows " ++ decimal rows
    ++ codes "\n"

-- a text as it is printed: a backslash stands before each bar and each backslash
abbrev pub escaped : List ℕ → List ℕ
escaped text = flat_map (λ c. if c == 92 || c == 124 then 92 ∷ c ∷ [] else c ∷ []) text

-- a date as four digits of its year, two of its month and two of its day, with hyphens between
abbrev pub date_written : ℕ → List ℕ
date_written date =
    last_digits 4 (date / 10000) ++ codes "-" ++ last_digits 2 (date / 100 % 100) ++ codes "-"
    ++ last_digits 2 (date % 100)

-- a value as it is printed; a fault is not
abbrev pub value_written : Value → List ℕ
value_written (Fault f) = []
value_written (Number scale c) = decimal_written c scale
value_written (Text text) = escaped text
value_written (Date date) = date_written date
value_written Null = codes "\\N"

-- values with a bar before each
abbrev pub barred : List Value → List ℕ
barred values = flat_map (λ v. 124 ∷ value_written v) values

-- values with a bar between two
abbrev pub columns_written : List Value → List ℕ
columns_written [] = []
columns_written (first ∷ others) = value_written first ++ barred others

-- a row, ended by LF
abbrev pub row_written : List Value → List ℕ
row_written row = columns_written row ++ 10 ∷ []

-- rows, one after the other
abbrev pub answer_text : List (List Value) → List ℕ
answer_text rows = flat_map row_written rows

-- the value can be printed
abbrev pub is_no_fault : Value → Bool
is_no_fault (Fault f) = false
is_no_fault v = true

-- each value of a row can be printed
abbrev pub has_no_fault : List Value → Bool
has_no_fault = list_all is_no_fault

-- each value of the rows can be printed
abbrev pub rows_have_no_fault : List (List Value) → Bool
rows_have_no_fault = list_all has_no_fault
