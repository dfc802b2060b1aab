-- Cells of batches as the fields of lines.
use Rattle.std.proofs.Common.{◌≡◌, ℕ, suc, zero, ◌+◌, ◌/◌, ◌%◌, ◌<◌, Bool, false, List, [], ◌∷◌, ◌++◌, ℤ, pos, map, refl, sym, ap, ◌∙◌, arith, append_assoc, drop, length, get_or}
use Rattle.std.specs.Fmt.{decimal}
use Rattle.std.specs.List.{All}
use Rattle.std.proofs.Math.Nat.{div-one}
use Rattle.std.proofs.lemmas.List.{get_or-map, length-map}
use Rattle.base_row_laws.specs.Ranked.{Ranked, ranked, true_rank}
use Rattle.base_value.specs.declared.value.Value.{Value}
use Rattle.base_value.specs.declared.value.Value.TheVariants.{Null, Number, Date}
use Rattle.base_null_marks.specs.Marks.{marked, has}
use Rattle.base_columns.specs.Batches.{column_at, row_at}
use Rattle.base_columns.specs.Tables.{standing_rows}
use Rattle.base_columns.proofs.MarkedColumns.{long-marked, null_there, value_there}
use Rattle.base_columns.proofs.SegmentLists.{stored-row}
use Rattle.base_decimal.specs.Written.{size_written}
use Rattle.store_refresh_text.specs.Text.{date_written, field_written, fields_written, row_written, rows_text}

-- the number or date at a place that isn't marked
pub number_there : (ms : List Bool) (scale : ℕ) (numbers : List ℤ) (i : ℕ) → has ms i ≡ false → i < length numbers
    → get_or (marked Null ms (map (Number scale) numbers)) i Null ≡ Number scale (get_or numbers i (pos 0))
number_there ms scale numbers i m h =
    value_there ms (map (Number scale) numbers) i m ∙ get_or-map (Number scale) numbers i (pos 0) Null h

pub date_there : (ms : List Bool) (dates : List ℕ) (i : ℕ) → has ms i ≡ false → i < length dates
    → get_or (marked Null ms (map Date dates)) i Null ≡ Date (get_or dates i 0)
date_there ms dates i m h = value_there ms (map Date dates) i m ∙ get_or-map Date dates i 0 Null h

pub ruleset places = (null_there, number_there, date_there)

-- a place of a column is one of its numbers or dates
pub is_inside : {A : Type 0} (column : List Value) (ms : List Bool) (f : A → Value) (xs : List A) (i : ℕ)
    → column ≡ marked Null ms (map f xs) → i < length column → i < length xs
is_inside column ms f xs i e h = omega (arith, h, ap length e, long-marked ms (map f xs), length-map xs f)

-- a date's digits
pub date_digits : (text : List ℕ) (date : ℕ)
    → text ++ (48 + date / 10000 / 1000 % 10) ∷ (48 + date / 10000 / 100 % 10) ∷ (48 + date / 10000 / 10 % 10) ∷ (48 + date / 10000 % 10) ∷ 45
    ∷ (48 + date / 100 % 100 / 10 % 10) ∷ (48 + date / 100 % 100 % 10) ∷ 45 ∷ (48 + date % 100 / 10 % 10) ∷ (48 + date % 100 % 10) ∷ []
    ≡ text ++ date_written date
date_digits text date = rw (div-one (date / 10000), div-one (date / 100 % 100), div-one (date % 100)) refl

pub ruleset dates = (date_digits)

-- a number of hundredths
pub cent_digits : (text : List ℕ) (size : ℕ) → (text ++ decimal (size / 100)) ++ 46 ∷ (48 + size / 10 % 10) ∷ (48 + size % 10) ∷ [] ≡ text ++ size_written size 2
cent_digits text size = rw (div-one size) (append_assoc text (decimal (size / 100)) (46 ∷ (48 + size / 10 % 10) ∷ (48 + size % 10) ∷ []))

pub ruleset cents = (cent_digits)

-- the fields from a place on
fields_from : (values : List Value) (j : ℕ) → j < length values
    → fields_written (drop j values) ≡ (field_written (get_or values j Null) ++ 124 ∷ []) ++ fields_written (drop (suc j) values)
fields_from [] j h = absurd (omega (arith, h))
fields_from (v ∷ values) zero h = refl
fields_from (v ∷ values) (suc j) h = fields_from values j (omega (arith, h))

-- a cell of a row
cell : (rows : List (Ranked Value)) (i j : ℕ) → i < length rows → get_or (column_at rows j) i Null ≡ get_or (row_at rows i).values j Null
cell rows i j h = get_or-map (λ r. get_or r.values j Null) rows i (ranked [] true_rank) Null h

-- one field more of a row
pub one_field : (rows : List (Ranked Value)) (i j w : ℕ) (text new last whole : List ℕ) → i < length rows → j < w → All (λ r. length r.values ≡ w) rows
    → text ++ fields_written (drop j (row_at rows i).values) ≡ whole
    → new ≡ text ++ field_written (get_or (column_at rows j) i Null)
    → last ≡ new ++ 124 ∷ []
    → last ++ fields_written (drop (j + 1) (row_at rows i).values) ≡ whole
one_field rows i j w text new last whole h l wide e n b =
    let values : List Value = (row_at rows i).values in
    let long : j < length values = omega (arith, l, wide i (ranked [] true_rank) h) in
    let next : j + 1 ≡ suc j = omega arith in
    let field : List ℕ = field_written (get_or values j Null) in
    let written : new ≡ text ++ field = n ∙ ap (λ v. text ++ field_written v) (cell rows i j h) in
    rw (b, written, next)
    (append_assoc (text ++ field) (124 ∷ []) (fields_written (drop (suc j) values))
    ∙ append_assoc text field (124 ∷ fields_written (drop (suc j) values))
    ∙ ap (λ more. text ++ more) (sym (append_assoc field (124 ∷ []) (fields_written (drop (suc j) values))) ∙ sym (fields_from values j long))
    ∙ e)

-- the lines from a place on
lines_from : (rows : List (List Value)) (i : ℕ) → i < length rows
    → rows_text (drop i rows) ≡ row_written (get_or rows i []) ++ rows_text (drop (suc i) rows)
lines_from [] i h = absurd (omega (arith, h))
lines_from (row ∷ rows) zero h = refl
lines_from (row ∷ rows) (suc i) h = lines_from rows i (omega (arith, h))

-- one line more of a segment
pub one_line : (rows : List (Ranked Value)) (plain : List (List Value)) (i : ℕ) (text new whole : List ℕ) → rows ≡ standing_rows plain → i < length plain
    → text ++ rows_text (drop i plain) ≡ whole
    → new ≡ text ++ row_written (row_at rows i).values
    → new ++ rows_text (drop (i + 1) plain) ≡ whole
one_line rows plain i text new whole s h e n =
    let next : i + 1 ≡ suc i = omega arith in
    let line : List ℕ = row_written (get_or plain i []) in
    let written : new ≡ text ++ line = n ∙ ap (λ values. text ++ row_written values) (stored-row rows plain i s h) in
    rw (written, next)
    (append_assoc text line (rows_text (drop (suc i) plain)) ∙ ap (λ more. text ++ more) (sym (lines_from plain i h)) ∙ e)
