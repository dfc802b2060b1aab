-- Rows that were read are read back from their lines.
use Rattle.std.proofs.Common.{◌≡◌, ℕ, suc, true, false, List, [], ◌∷◌, ◌++◌, length, map, refl, sym, ap, ◌∙◌, arith, append_assoc, append-nil, Ok, inr}
use Rattle.std.specs.List.{All, list_any, join_with_byte, zip}
use Rattle.std.proofs.lemmas.List.Elements.{All-nil, All-cons, All-head, All-tail}
use Rattle.base_value.specs.declared.value.Value.{Value}
use Rattle.base_schema.specs.declared.column.LineColumn.{LineColumn}
use Rattle.base_schema.specs.LineForm.{LineForm}
use Rattle.store_file_reader.specs.File.{cut_lines, file_rows, line_row}
use Rattle.store_file_reader.specs.Laws.{AreRowsOf}
use Rattle.store_file_reader.specs.Line.{is_bar, line_text, row_of, without_end}
use Rattle.store_file_reader.specs.LineLaws.{AreValuesOf, value_said}
use Rattle.store_file_reader.specs.Reading.{is_unended}
use Rattle.store_file_reader.proofs.FieldLaws.{values_from, values_to}
use Rattle.store_file_reader.proofs.FileLaws.{rows_are_those}
use Rattle.store_file_reader.proofs.LineCuts.{cut_lines-ended, unended-append, unended-cons, unended-nil}
use Rattle.store_file_reader.proofs.WholeLines.{concat-cut_lines}
use Rattle.store_refresh_text.specs.Text.{field_written, fields_written, row_written, rows_text}
use Rattle.store_refresh_text.proofs.Clean.{no_bar, unended, without_last, without_other}
use Rattle.store_refresh_text.proofs.Fields.{Again, column_again}

-- the fields of a row's values

abbrev pub fields_of : List Value → List (List ℕ)
fields_of values = map field_written values

-- each value is read back in its column
abbrev pub AreAgain : List LineColumn → List Value → Type 0
AreAgain [] [] = Unit {0}
AreAgain [] (v ∷ vs) = ⊥
AreAgain (column ∷ columns) [] = ⊥
AreAgain (column ∷ columns) (v ∷ vs) = Again column v × AreAgain columns vs

-- a text without a bar
abbrev HasNoBar : List ℕ → Type 0
HasNoBar field = list_any is_bar field ≡ false

are_again : (columns : List LineColumn) (fields : List (List ℕ)) (values : List Value) → length fields ≡ length columns → All HasNoBar fields
    → map value_said (zip columns fields) ≡ map Ok values → AreAgain columns values
are_again [] [] [] same bars e = tt
are_again [] [] (v ∷ vs) same bars e = cc
are_again [] (f ∷ fs) values same bars e = absurd (omega (arith, same))
are_again (column ∷ columns) [] values same bars e = absurd (omega (arith, same))
are_again (column ∷ columns) (f ∷ fs) [] same bars e = cc
are_again (column ∷ columns) (f ∷ fs) (v ∷ vs) same bars e =
    let here : value_said (column, f) ≡ Ok v = cc in
    let others : map value_said (zip columns fs) ≡ map Ok vs = cc in
    (column_again column f v (All-head HasNoBar f fs bars) here, are_again columns fs vs (omega (arith, same)) (All-tail HasNoBar f fs bars) others)

lengths : (columns : List LineColumn) (values : List Value) → AreAgain columns values → length (fields_of values) ≡ length columns
lengths [] [] a = refl
lengths [] (v ∷ vs) a = absurd a
lengths (column ∷ columns) [] a = absurd a
lengths (column ∷ columns) (v ∷ vs) a = ap suc (lengths columns vs a.1)

bars : (columns : List LineColumn) (values : List Value) → AreAgain columns values → All HasNoBar (fields_of values)
bars [] [] a = All-nil HasNoBar
bars [] (v ∷ vs) a = absurd a
bars (column ∷ columns) [] a = absurd a
bars (column ∷ columns) (v ∷ vs) a = All-cons HasNoBar (field_written v) (fields_of vs) (no_bar (field_written v) a.0.clean) (bars columns vs a.1)

all_said : (columns : List LineColumn) (values : List Value) → AreAgain columns values → map value_said (zip columns (fields_of values)) ≡ map Ok values
all_said [] [] a = refl
all_said [] (v ∷ vs) a = absurd a
all_said (column ∷ columns) [] a = absurd a
all_said (column ∷ columns) (v ∷ vs) a = λ i. a.0.said i ∷ all_said columns vs a.1 i

fields_unended : (columns : List LineColumn) (values : List Value) → AreAgain columns values → is_unended (fields_written values) ≡ true
fields_unended [] [] a = unended-nil
fields_unended [] (v ∷ vs) a = absurd a
fields_unended (column ∷ columns) [] a = absurd a
fields_unended (column ∷ columns) (v ∷ vs) a =
    unended-append (field_written v ++ 124 ∷ []) (fields_written vs)
    (unended-append (field_written v) (124 ∷ []) (unended (field_written v) a.0.clean) (unended-cons 124 [] refl unended-nil))
    (fields_unended columns vs a.1)

joined : (v : Value) (vs : List Value) → fields_written (v ∷ vs) ≡ join_with_byte 124 (fields_of (v ∷ vs)) ++ 124 ∷ []
joined v [] = append-nil (field_written v ++ 124 ∷ [])
joined v (w ∷ vs) =
    ap (λ rest. (field_written v ++ 124 ∷ []) ++ rest) (joined w vs)
    ∙ append_assoc (field_written v) (124 ∷ []) (join_with_byte 124 (fields_of (w ∷ vs)) ++ 124 ∷ [])
    ∙ sym (append_assoc (field_written v) (124 ∷ join_with_byte 124 (fields_of (w ∷ vs))) (124 ∷ []))

line_is : (v : Value) (vs : List Value) → line_text (row_written (v ∷ vs)) ≡ fields_written (v ∷ vs)
line_is v vs =
    ap (without_end 13) (without_last (fields_written (v ∷ vs)) ∙ joined v vs)
    ∙ without_other (join_with_byte 124 (fields_of (v ∷ vs))) 124 refl
    ∙ sym (joined v vs)

-- a form of such columns
module _ (form : LineForm) (column : LineColumn) (columns : List LineColumn) (same : form.columns ≡ column ∷ columns) where
  -- a row that a line gave is read back in each value
  row_again : (line : List ℕ) (values : List Value) → line_row form line ≡ Ok values → AreAgain (column ∷ columns) values
  row_again line values e =
      let text = line_text line in
      let are : AreValuesOf (column ∷ columns) text values = values_from (column ∷ columns) text (omega arith) values (ap (λ c. row_of c text) (sym same) ∙ e) in
      are_again (column ∷ columns) are.fields values are.parted.as_many are.parted.no_bar are.said

  pub rows_again : (lines : List (List ℕ)) (rows : List (List Value)) → map (line_row form) lines ≡ map Ok rows → All (AreAgain (column ∷ columns)) rows
  rows_again [] [] e = All-nil (AreAgain (column ∷ columns))
  rows_again [] (row ∷ rows) e = cc
  rows_again (line ∷ lines) [] e = cc
  rows_again (line ∷ lines) (row ∷ rows) e =
      let here : line_row form line ≡ Ok row = cc in
      let others : map (line_row form) lines ≡ map Ok rows = cc in
      All-cons (AreAgain (column ∷ columns)) row rows (row_again line row here) (rows_again lines rows others)

  line_read : (values : List Value) → AreAgain (column ∷ columns) values → line_row form (row_written values) ≡ Ok values
  line_read [] a = absurd a
  line_read (v ∷ vs) a =
      ap (row_of form.columns) (line_is v vs)
      ∙ ap (λ c. row_of c (fields_written (v ∷ vs))) same
      ∙ values_to (column ∷ columns) (fields_written (v ∷ vs)) (omega arith) (v ∷ vs) (record {
        fields = fields_of (v ∷ vs);
        parted = record {
          as_many = lengths (column ∷ columns) (v ∷ vs) a;
          no_bar = bars (column ∷ columns) (v ∷ vs) a;
          parted = inr (joined v vs);
        };
        said = all_said (column ∷ columns) (v ∷ vs) a;
      })

  lines_read : (rows : List (List Value)) → All (AreAgain (column ∷ columns)) rows → map (line_row form) (map row_written rows) ≡ map Ok rows
  lines_read [] a = refl
  lines_read (row ∷ rows) a =
      let here = line_read row (All-head (AreAgain (column ∷ columns)) row rows a) in
      let others = lines_read rows (All-tail (AreAgain (column ∷ columns)) row rows a) in
      λ i. here i ∷ others i

  cut_again : (rows : List (List Value)) → All (AreAgain (column ∷ columns)) rows → cut_lines (rows_text rows) ≡ map row_written rows
  cut_again [] a = refl
  cut_again (row ∷ rows) a =
      let ended = fields_unended (column ∷ columns) row (All-head (AreAgain (column ∷ columns)) row rows a) in
      ap cut_lines (append_assoc (fields_written row) (10 ∷ []) (rows_text rows))
      ∙ cut_lines-ended (fields_written row) (rows_text rows) ended
      ∙ ap (λ (l : List (List ℕ)). row_written row ∷ l) (cut_again rows (All-tail (AreAgain (column ∷ columns)) row rows a))

  -- what a file gives is read back from its own text
  pub rows_read : form.unique ≡ false → (limit : ℕ) (text : List ℕ) (rows : List (List Value)) → file_rows form limit text ≡ Ok rows
      → file_rows form (length (rows_text rows)) (rows_text rows) ≡ Ok rows
  rows_read many limit text rows e =
      let are : AreRowsOf form limit (cut_lines text) rows = (rows_are_those form limit text rows).0 e in
      let each = rows_again (cut_lines text) rows are.fields in
      let own = rows_text rows in
      let one : form.unique ≡ true → ⊥ = λ u. let bad : true ≡ false = sym u ∙ many in cc in
      (rows_are_those form (length own) own rows).1 (record {
        fields = ap (λ ls. map (line_row form) ls) (cut_again rows each) ∙ lines_read rows each;
        keys = λ u. absurd (one u);
        bytes = omega (arith, ap length (concat-cut_lines own));
      })
