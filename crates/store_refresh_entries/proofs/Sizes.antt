-- How long the texts are that are written of the rows of files.
use Rattle.std.proofs.Common.{◌≡◌, ℕ, zero, suc, ◌+◌, ◌*◌, ◌/◌, ◌^◌, ◌<◌, ◌≤◌, Bool, true, false, cond, ◌&&◌, ◌||◌, List, [], ◌∷◌, ◌++◌, length, map, refl, ap, arith, length-append, ℤ, pos, negsuc, Some, None, Ok}
use Rattle.std.specs.Prelude.{◌==◌, int_lt, slice_index_or, unsigned_abs, nat_le, unwrap_or}
use Rattle.std.specs.Cmp.Lexicographic.{pointwise}
use Rattle.std.specs.Fmt.{decimal}
use Rattle.std.specs.List.{concat}
use Rattle.std.proofs.Math.Nat.{div-le_self}
use Rattle.std.proofs.lemmas.Bool.{and_parts, eqb-true, ltb-true}
use Rattle.std.proofs.lemmas.Bool.Decides.{nat_tests}
use Rattle.std.proofs.lemmas.Fmt.{length-decimal-le_wide}
use Rattle.base_decimal.specs.Written.{decimal_written, last_digits, size_written}
use Rattle.base_value.specs.declared.value.Value.{Value}
use Rattle.base_value.specs.declared.value.Value.TheVariants as value
use Rattle.base_columns.specs.Numbers.{is_small, small_number}
use Rattle.base_schema.specs.declared.column.ColumnKind.{ColumnKind}
use Rattle.base_schema.specs.declared.column.ColumnKind.TheVariants.{Key, Whole, Decimal, Date, Text}
use Rattle.base_schema.specs.declared.column.LineColumn.{LineColumn}
use Rattle.base_schema.specs.Kinds.{can_hold, is_narrow, is_of_kind}
use Rattle.base_schema.specs.LineForm.{LineForm}
use Rattle.store_file_reader.specs.File.{cut_lines, file_rows, line_row}
use Rattle.store_file_reader.specs.Laws.{AreLines, AreRowsOf}
use Rattle.store_file_reader.specs.Line.{line_text}
use Rattle.store_file_reader.proofs.FileLaws.{rows_are_those}
use Rattle.store_file_reader.proofs.Rows.{row_held}
use Rattle.store_file_reader.proofs.WholeLines.{are_lines}
use Rattle.store_state.specs.Keys.{order_key, order_keys}
use Rattle.store_refresh_text.specs.Text.{field_written, fields_written, keys_text, row_written, rows_text}

-- numbers

length-last_digits : (places n : ℕ) → length (last_digits places n) ≡ places
length-last_digits zero n = refl
length-last_digits (suc places) n = ap suc (length-last_digits places n)

length-whole : (n : ℕ) → n ≤ 2 ^ 63 → length (decimal n) ≤ 19
length-whole n h = length-decimal-le_wide 19 n (omega arith) (omega (arith, h)) (omega (arith, h))

length-sign : (b : Bool) → length {A = ℕ} (cond b (45 ∷ []) []) ≤ 1
length-sign true = omega arith
length-sign false = omega arith

length-size : (n places : ℕ) → n ≤ 2 ^ 63 → length (size_written n places) ≤ 20 + places
length-size n zero h = omega (arith, length-whole n h)
length-size n (suc places) h =
    let less : n / 10 ^ suc places ≤ n = div-le_self n (10 ^ suc places) in
    let front = length-whole (n / 10 ^ suc places) (omega (arith, less, h)) in
    omega (arith, front, length-append (decimal (n / 10 ^ suc places)) (46 ∷ last_digits (suc places) n), length-last_digits (suc places) n)

length-written : (c : ℤ) (places : ℕ) → unsigned_abs c ≤ 2 ^ 63 → length (decimal_written c places) ≤ 21 + places
length-written c places h =
    let size = length-size (unsigned_abs c) places h in
    omega (arith, size, length-append (cond (int_lt c (pos 0)) (45 ∷ []) []) (size_written (unsigned_abs c) places), length-sign (int_lt c (pos 0)))

of_scale : (scale n : ℕ) (c : ℤ) → (scale == n) ≡ true → is_narrow c ≡ true → n ≤ 2 → length (decimal_written c scale) ≤ 23
of_scale scale n c same narrow le =
    let is : scale ≡ n = eqb-true scale n same in
    let less : unsigned_abs c < 2 ^ 63 = ltb-true (unsigned_abs c) (2 ^ 63) narrow in
    omega (arith, le, is, length-written c scale (omega (arith, less)))

-- the most bytes of a field that is written of a column's value; a null has two

abbrev width : ColumnKind → ℕ
width Key = 23
width Whole = 23
width Decimal = 23
width Date = 10
width (Text most) = most + 2

two : (kind : ColumnKind) → 2 ≤ width kind
two Key = omega arith
two Whole = omega arith
two Decimal = omega arith
two Date = omega arith
two (Text most) = omega arith

number_short : (kind : ColumnKind) (scale : ℕ) (c : ℤ) → is_of_kind kind (value.Number scale c) ≡ true → length (decimal_written c scale) ≤ width kind
number_short Key scale c e = let both = and_parts _ _ e in of_scale scale 0 c (and_parts _ _ both.0).0 both.1 (omega arith)
number_short Whole scale c e = let both = and_parts _ _ e in of_scale scale 0 c both.0 both.1 (omega arith)
number_short Decimal scale c e = let both = and_parts _ _ e in of_scale scale 2 c both.0 both.1 (omega arith)
number_short Date scale c e = cc
number_short (Text most) scale c e = cc

date_short : (kind : ColumnKind) (date : ℕ) → is_of_kind kind (value.Date date) ≡ true → 10 ≤ width kind
date_short Key date e = cc
date_short Whole date e = cc
date_short Decimal date e = cc
date_short Date date e = omega arith
date_short (Text most) date e = cc

within : (n most : ℕ) → nat_le n most ≡ true → n ≤ most + 2
within n most e = let le : n ≤ most = grind (arith, nat_tests) in omega (arith, le)

text_short : (kind : ColumnKind) (text : List ℕ) → is_of_kind kind (value.Text text) ≡ true → length text ≤ width kind
text_short Key text e = cc
text_short Whole text e = cc
text_short Decimal text e = cc
text_short Date text e = cc
text_short (Text most) text e = within (length text) most e

not_null : (nullable b : Bool) → ((nullable && false) || b) ≡ true → b ≡ true
not_null true b e = e
not_null false b e = e

field_short : (column : LineColumn) (v : Value) → can_hold column v ≡ true → length (field_written v) ≤ width column.kind
field_short column (value.Fault f) e = omega arith
field_short column (value.Number scale c) e = number_short column.kind scale c (not_null column.nullable _ e)
field_short column (value.Text text) e = text_short column.kind text (not_null column.nullable _ e)
field_short column (value.Date date) e = let ten = date_short column.kind date (not_null column.nullable _ e) in ten
field_short column value.Null e = two column.kind

-- the most bytes of a row's fields, with their bars

abbrev pub widths : List LineColumn → ℕ
widths [] = 0
widths (column ∷ columns) = width column.kind + 1 + widths columns

fields_short : (columns : List LineColumn) (values : List Value) → pointwise can_hold columns values ≡ true → length (fields_written values) ≤ widths columns
fields_short [] [] e = omega arith
fields_short [] (v ∷ vs) e = cc
fields_short (column ∷ columns) [] e = cc
fields_short (column ∷ columns) (v ∷ vs) e =
    let both = and_parts _ _ e in
    let here = field_short column v both.0 in
    let others = fields_short columns vs both.1 in
    omega (arith, here, others, length-append (field_written v ++ 124 ∷ []) (fields_written vs), length-append (field_written v) (124 ∷ []))

rows_short : (form : LineForm) → widths form.columns < 512 → (lines : List (List ℕ)) (rows : List (List Value)) → map (line_row form) lines ≡ map Ok rows
    → length (rows_text rows) ≤ 512 * length lines
rows_short form few [] [] e = omega arith
rows_short form few [] (row ∷ rows) e = cc
rows_short form few (line ∷ lines) [] e = cc
rows_short form few (line ∷ lines) (row ∷ rows) e =
    let said : line_row form line ≡ Ok row = cc in
    let behind : map (line_row form) lines ≡ map Ok rows = cc in
    let here = fields_short form.columns row (row_held form.columns (line_text line) row said) in
    let others = rows_short form few lines rows behind in
    omega (arith, few, here, others, length-append (row_written row) (rows_text rows), length-append (fields_written row) (10 ∷ []))

-- a key is one of 64 bits, whatever its row
small_or : (b : Bool) (c : ℤ) → (b ≡ true → unsigned_abs c ≤ 2 ^ 63) → unsigned_abs (unwrap_or (cond b (Some c) None) (pos 0)) ≤ 2 ^ 63
small_or true c small = small refl
small_or false c small = omega arith

small_size : (c : ℤ) → is_small c ≡ true → unsigned_abs c ≤ 2 ^ 63
small_size (pos n) e = let less : n < 2 ^ 63 = ltb-true n (2 ^ 63) e in omega (arith, less)
small_size (negsuc n) e = let less : n < 2 ^ 63 = ltb-true n (2 ^ 63) e in omega (arith, less)

number_small : (v : Value) → unsigned_abs (unwrap_or (small_number v) (pos 0)) ≤ 2 ^ 63
number_small (value.Fault f) = omega arith
number_small (value.Number scale c) = small_or (is_small c) c (small_size c)
number_small (value.Text text) = omega arith
number_small (value.Date date) = omega arith
number_small value.Null = omega arith

lines_short : (form : LineForm) (lines : List (List ℕ)) (rows : List (List Value)) → map (line_row form) lines ≡ map Ok rows → length (keys_text (order_keys rows)) ≤ 512 * length lines
lines_short form [] [] e = omega arith
lines_short form [] (row ∷ rows) e = cc
lines_short form (line ∷ lines) [] e = cc
lines_short form (line ∷ lines) (row ∷ rows) e =
    let behind : map (line_row form) lines ≡ map Ok rows = cc in
    let key = order_key row in
    let here = length-written key 0 (number_small (slice_index_or row 0 value.Null)) in
    let others = lines_short form lines rows behind in
    omega (arith, here, others, length-append (decimal_written key 0 ++ 10 ∷ []) (keys_text (order_keys rows)), length-append (decimal_written key 0) (10 ∷ []))

-- no more lines than bytes

few_lines : (lines : List (List ℕ)) → AreLines lines → length lines ≤ length (concat lines)
few_lines [] a = omega arith
few_lines (line ∷ lines) a =
    let some = a.0.some in
    omega (arith, some, length-append line (concat lines), few_lines lines a.2)

module _ (form : LineForm) (limit : ℕ) (text : List ℕ) (rows : List (List Value)) (read : file_rows form limit text ≡ Ok rows) where
  are : AreRowsOf form limit (cut_lines text) rows
  are = (rows_are_those form limit text rows).0 read

  within_limit : length (cut_lines text) ≤ limit
  within_limit = let bytes = are.bytes in omega (arith, bytes, few_lines (cut_lines text) (are_lines text))

  -- the text that is written of the rows, and that of the keys
  pub text_short_by : widths form.columns < 512 → length (rows_text rows) ≤ 512 * limit
  text_short_by few = omega (arith, within_limit, rows_short form few (cut_lines text) rows are.fields)

  pub keys_short_by : length (keys_text (order_keys rows)) ≤ 512 * limit
  keys_short_by = omega (arith, within_limit, lines_short form (cut_lines text) rows are.fields)
