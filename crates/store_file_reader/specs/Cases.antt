-- Small files, computed.
use Rattle.std.specs.Prelude.{◌≡◌, ℕ, true, false, List, [], ◌∷◌, ◌++◌, length, pos, Ok, Err}
use Rattle.std.specs.Prelude.{Result, codes}
use Rattle.base_refusals.specs.declared.line.LineFault.{LineFault}
use Rattle.base_refusals.specs.declared.line.LineFault.TheVariants.{FieldCount, BadNumber}
use Rattle.base_refusals.specs.declared.line.LineFault.TheVariants.{NumberTooWide}
use Rattle.base_refusals.specs.declared.line.LineFault.TheVariants.{BadDate, BadText, TextTooLong}
use Rattle.base_refusals.specs.declared.line.LineFault.TheVariants.{DuplicateKey, FileTooLong}
use Rattle.base_refusals.specs.declared.line.LineRefusal.{LineRefusal}
use Rattle.base_value.specs.declared.value.Value.{Value}
use Rattle.base_value.specs.declared.value.Value.TheVariants.{Null, Number, Text}
use Rattle.base_refusals.specs.declared.refresh.RefreshFile.TheVariants.{Orders as RefreshOrders}
use Rattle.base_refusals.specs.declared.refresh.RefreshFile.TheVariants.{Delete}
use Rattle.base_schema.specs.declared.table.TableName.TheVariants.{Region, Orders}
use Rattle.base_schema.specs.LineForm.{table_form, refresh_form}
use Rattle.store_file_reader.specs.File.{cut_lines, file_rows, most_bytes}

-- a refusal of a line, counted from 1
abbrev pub refusal_at : ℕ → LineFault → Result (List (List Value)) LineRefusal
refusal_at line fault = Err (record { line = line; fault = fault })

-- a row of region
abbrev pub region : ℕ → List ℕ → List ℕ → List Value
region key name comment = Number 0 (pos key) ∷ Text name ∷ Text comment ∷ []

-- a last LF begins no further line, and an empty line is a line
abbrev pub Lines : Type 0
Lines =
    (cut_lines [] ≡ [])
    × (cut_lines (97 ∷ 10 ∷ 98 ∷ 10 ∷ []) ≡ (97 ∷ 10 ∷ []) ∷ (98 ∷ 10 ∷ []) ∷ [])
    × (cut_lines (10 ∷ 97 ∷ []) ≡ (10 ∷ []) ∷ (97 ∷ []) ∷ [])

-- one bar may stand after the last field; a CR before the LF or the end is dropped, and an empty
-- file has no rows
abbrev pub Rows : Type 0
Rows =
    (file_rows (table_form Region) most_bytes (codes "0|AFRICA|")
    ≡ Ok (region 0 (codes "AFRICA") [] ∷ []))
    × (file_rows (table_form Region) most_bytes (codes "0|AFRICA||")
    ≡ Ok (region 0 (codes "AFRICA") [] ∷ []))
    × (file_rows (table_form Region) most_bytes
    (codes "0|A|a|" ++ 13 ∷ 10 ∷ codes "001|B|b" ++ 13 ∷ [])
    ≡ Ok (region 0 (codes "A") (codes "a") ∷ region 1 (codes "B") (codes "b") ∷ []))
    × (file_rows (table_form Region) most_bytes [] ≡ Ok [])

-- the first bad line decides; in a line the number of fields, then the fields from the left, then
-- the key; of two CR before the LF one stays, and is no byte of a text
abbrev pub Refusals : Type 0
Refusals =
    (file_rows (table_form Region) most_bytes (codes "0|AFRICA") ≡ refusal_at 1 FieldCount)
    × (file_rows (table_form Region) most_bytes (codes "0|A|a|" ++ 10 ∷ codes "1|AM")
    ≡ refusal_at 2 FieldCount)
    × (file_rows (table_form Region) most_bytes (codes "x|A|y|") ≡ refusal_at 1 BadNumber)
    × (file_rows (table_form Region) most_bytes (codes "9223372036854775808|A|y|")
    ≡ refusal_at 1 NumberTooWide)
    × (file_rows (table_form Region) most_bytes (codes "-1|" ++ 9 ∷ codes "|y|")
    ≡ refusal_at 1 NumberTooWide)
    × (file_rows (table_form Region) most_bytes
    (codes "0|abcdefghijklmnopqrstuvwxy" ++ 127 ∷ codes "|y|") ≡ refusal_at 1 BadText)
    × (file_rows (table_form Region) most_bytes (codes "0|A|a" ++ 13 ∷ 13 ∷ 10 ∷ [])
    ≡ refusal_at 1 BadText)
    × (file_rows (table_form Region) most_bytes (codes "0|abcdefghijklmnopqrstuvwxyz|y|")
    ≡ refusal_at 1 TextTooLong)
    × (file_rows (table_form Region) most_bytes (codes "0|A|x|" ++ 10 ∷ codes "00|B|y|")
    ≡ refusal_at 2 DuplicateKey)
    × (file_rows (table_form Orders) most_bytes (codes "1|1|O|1.00|1900-02-29|1|K|0|x|")
    ≡ refusal_at 1 BadDate)

-- the limit is the number of bytes that a file may have, the LF of a line among them
abbrev pub Limits : Type 0
Limits =
    (file_rows (table_form Region) 6 (codes "0|A|a|") ≡ Ok (region 0 (codes "A") (codes "a") ∷ []))
    × (file_rows (table_form Region) 6 (codes "0|A|a|" ++ 10 ∷ []) ≡ refusal_at 1 FileTooLong)
    × (file_rows (table_form Region) 7 (codes "0|A|a|" ++ 10 ∷ codes "x")
    ≡ refusal_at 2 FileTooLong)
    × (file_rows (table_form Region) 7 (codes "x|A|a|" ++ 10 ∷ codes "x") ≡ refusal_at 1 BadNumber)

-- a row of a delete file
abbrev pub key : ℕ → List Value
key number = Number 0 (pos number) ∷ []

-- in a delete file `7` and `7|` are lines, a key may stand twice, and an empty line is no number
abbrev pub Deletes : Type 0
Deletes =
    (file_rows (refresh_form Delete) most_bytes (codes "7") ≡ Ok (key 7 ∷ []))
    × (file_rows (refresh_form Delete) most_bytes (codes "7|" ++ 10 ∷ codes "7" ++ 13 ∷ 10 ∷ [])
    ≡ Ok (key 7 ∷ key 7 ∷ []))
    × (file_rows (refresh_form Delete) most_bytes (10 ∷ codes "7") ≡ refusal_at 1 BadNumber)
    × (file_rows (refresh_form Delete) most_bytes (codes "7" ++ 10 ∷ codes "7x")
    ≡ refusal_at 2 BadNumber)
    × (file_rows (refresh_form Delete) most_bytes (codes "7||") ≡ refusal_at 1 FieldCount)

-- a line of an order
abbrev pub order_line : List ℕ
order_line = codes "9|2|O|5.00|1996-01-04|5-LOW|K|0|z|" ++ 10 ∷ []

-- how many rows there are
abbrev pub only_count : Result (List (List Value)) LineRefusal → Result ℕ LineRefusal
only_count (Ok rows) = Ok (length rows)
only_count (Err first) = Err first

-- a key that stands twice is refused in a table's file and is not in a refresh file, whose lines
-- are the table's otherwise
abbrev pub Refreshes : Type 0
Refreshes =
    (file_rows (table_form Orders) most_bytes (order_line ++ order_line)
    ≡ refusal_at 2 DuplicateKey)
    × (only_count (file_rows (refresh_form RefreshOrders) most_bytes (order_line ++ order_line))
    ≡ Ok 2)
    × (file_rows (refresh_form RefreshOrders) most_bytes (order_line ++ codes "9|2")
    ≡ refusal_at 2 FieldCount)
    × (file_rows (refresh_form RefreshOrders) most_bytes (codes "9|2|O|5|1996-02-30|L|K|0|z")
    ≡ refusal_at 1 BadDate)

-- a field of the two bytes \N
abbrev pub null_field : List ℕ
null_field = 92 ∷ 78 ∷ []

-- outside the primary key the two bytes \N are null, before their kind and their length are tested;
-- in it and in a delete file they are no number, and a field with other bytes is a field as others
abbrev pub Nulls : Type 0
Nulls =
    (file_rows (table_form Region) most_bytes (codes "0|A|" ++ null_field ++ codes "|")
    ≡ Ok ((Number 0 (pos 0) ∷ Text (codes "A") ∷ Null ∷ []) ∷ []))
    × (file_rows (table_form Region) most_bytes (codes "0|" ++ 92 ∷ codes "n| " ++ null_field)
    ≡ Ok (region 0 (92 ∷ codes "n") (32 ∷ null_field) ∷ []))
    × (file_rows (refresh_form RefreshOrders) most_bytes
    (codes "8|" ++ null_field ++ codes "|" ++ null_field ++ codes "|20.00|" ++ null_field
    ++ codes "|5-LOW|K|0|y|")
    ≡ Ok ((Number 0 (pos 8) ∷ Null ∷ Null ∷ Number 2 (pos 2000) ∷ Null ∷ Text (codes "5-LOW")
    ∷ Text (codes "K") ∷ Number 0 (pos 0) ∷ Text (codes "y") ∷ []) ∷ []))
    × (file_rows (table_form Orders) most_bytes
    (codes "8|1|" ++ null_field ++ codes "N|20.00|1996-01-03|5-LOW|K|0|y|")
    ≡ refusal_at 1 TextTooLong)
    × (file_rows (table_form Orders) most_bytes
    (null_field ++ codes "|1|O|10.00|1996-01-02|1-URGENT|K|0|x|") ≡ refusal_at 1 BadNumber)
    × (file_rows (refresh_form Delete) most_bytes null_field ≡ refusal_at 1 BadNumber)
