-- A line's row fits the columns that it was read by.
use Rattle.std.proofs.Common.{◌≡◌, ℕ, suc, ℤ, Bool, true, false, cond, List, [], ◌&&◌, ◌||◌, ◌∷◌, length, map, refl, sym, ◌∙◌, ap, Option, Some, None, Result, Ok, Err}
use Rattle.std.specs.Cmp.Lexicographic.{pointwise}
use Rattle.std.specs.List.{before_first, after_first}
use Rattle.base_text.specs.Printable.{first_unprintable}
use Rattle.base_date.specs.Date.{date_of}
use Rattle.base_decimal.specs.Written.{decimal_read}
use Rattle.base_decimal.specs.declared.read.Spelling.{Spelling}
use Rattle.base_decimal.specs.declared.read.Spelling.TheVariants.{NotANumber, TooWide}
use Rattle.base_columns.specs.declared.field.Field.{Field}
use Rattle.base_columns.specs.Fields.{field_value}
use Rattle.std.proofs.lemmas.Bool.{and_parts}
use Rattle.std.proofs.lemmas.List.{length-map}
use Rattle.std.proofs.lemmas.List.Elements.{All-push}
use Rattle.base_refusals.specs.declared.line.LineFault.{LineFault}
use Rattle.base_value.specs.declared.value.Value.{Value}
use Rattle.base_value.specs.declared.value.Value.TheVariants as value
use Rattle.base_schema.specs.declared.column.ColumnKind.{ColumnKind}
use Rattle.base_schema.specs.declared.column.ColumnKind.TheVariants.{Key, Whole, Decimal, Date, Text}
use Rattle.base_schema.specs.Kinds.{is_of_kind, is_null, can_hold}
use Rattle.base_schema.specs.declared.column.LineColumn.{LineColumn}
use Rattle.base_schema.specs.LineForm.{LineForm, fits}
use Rattle.store_file_reader.specs.Field.{kind_field, spells_null, column_value, number_field, date_field, printable_field}
use Rattle.store_file_reader.specs.Line.{is_bar, put_first, values_of, row_of}

-- what is answered only where the column can hold it
tested : (kind : ColumnKind) (b : Bool) (v w : Value) (fault : LineFault) → b ≡ is_of_kind kind v → cond b (Ok v) (Err fault) ≡ Ok w → is_of_kind kind w ≡ true
tested kind true v w fault k e = let same : v ≡ w = cc in rw (← same, ← k) refl
tested kind false v w fault k e = cc

number_kind : (kind : ColumnKind) (scale : ℕ) (r : Result ℤ Spelling) (v : Value) → number_field kind scale r ≡ Ok v → is_of_kind kind v ≡ true
number_kind kind scale (Ok c) v e = tested kind _ _ v _ refl e
number_kind kind scale (Err NotANumber) v e = cc
number_kind kind scale (Err TooWide) v e = cc

date_kind : (r : Option ℕ) (v : Value) → date_field r ≡ Ok v → is_of_kind Date v ≡ true
date_kind (Some d) v e = tested Date true _ v (LineFault.BadDate) refl e
date_kind None v e = cc

text_kind : (kind : ColumnKind) (text : List ℕ) (r : Option ℕ) (v : Value) → printable_field kind text r ≡ Ok v → is_of_kind kind v ≡ true
text_kind kind text (Some place) v e = cc
text_kind kind text None v e = tested kind _ _ v _ refl e

pub field_kind : (kind : ColumnKind) (field : List ℕ) (v : Value) → kind_field kind field ≡ Ok v → is_of_kind kind v ≡ true
field_kind Key field v e = number_kind Key 0 (decimal_read field 0) v e
field_kind Whole field v e = number_kind Whole 0 (decimal_read field 0) v e
field_kind Decimal field v e = number_kind Decimal 2 (decimal_read field 2) v e
field_kind Date field v e = date_kind (date_of field) v e
field_kind (Text most) field v e = text_kind (Text most) field (first_unprintable field) v e

or_true : (a b : Bool) → b ≡ true → (a || b) ≡ true
or_true true b e = refl
or_true false b e = e

held : (nullable null : Bool) (kind : ColumnKind) (r : Result Value LineFault) (v : Value) → ((w : Value) → r ≡ Ok w → is_of_kind kind w ≡ true)
    → cond (nullable && null) (Ok value.Null) r ≡ Ok v → ((nullable && is_null v) || is_of_kind kind v) ≡ true
held true true kind r v p e = let same : value.Null ≡ v = cc in rw (← same) refl
held true false kind r v p e = or_true (is_null v) (is_of_kind kind v) (p v e)
held false null kind r v p e = p v e

pub column_held : (column : LineColumn) (field : List ℕ) (v : Value) → column_value column field ≡ Ok v → can_hold column v ≡ true
column_held column field v e = held column.nullable (spells_null field) column.kind (kind_field column.kind field) v (field_kind column.kind field) e

put_held : (column : LineColumn) (columns : List LineColumn) (r : Result Value LineFault) (s : Result (List Value) LineFault) (vs : List Value)
    → ((v : Value) → r ≡ Ok v → can_hold column v ≡ true)
    → ((ws : List Value) → s ≡ Ok ws → pointwise can_hold columns ws ≡ true)
    → put_first r s ≡ Ok vs → pointwise can_hold (column ∷ columns) vs ≡ true
put_held column columns (Ok v) (Ok ws) vs p q e =
    let same : v ∷ ws ≡ vs = cc in
    rw (← same, p v refl, q ws refl) refl
put_held column columns (Ok v) (Err fault) vs p q e = cc
put_held column columns (Err fault) s vs p q e = cc

pub values_held : (columns : List LineColumn) (text : List ℕ) (vs : List Value) → values_of columns text ≡ Ok vs → pointwise can_hold columns vs ≡ true
values_held [] text vs e = let same : [] ≡ vs = cc in rw (← same) refl
values_held (column ∷ columns) text vs e =
    put_held column columns (column_value column (before_first is_bar text)) (values_of columns (after_first is_bar text)) vs
    (column_held column (before_first is_bar text))
    (values_held columns (after_first is_bar text))
    e

only_then : (b : Bool) (r : Result (List Value) LineFault) (fault : LineFault) (vs : List Value) → cond b r (Err fault) ≡ Ok vs → r ≡ Ok vs
only_then true r fault vs e = e
only_then false r fault vs e = cc

pub row_held : (columns : List LineColumn) (line : List ℕ) (vs : List Value) → row_of columns line ≡ Ok vs → pointwise can_hold columns vs ≡ true
row_held columns line vs e = values_held columns line vs (only_then _ _ _ vs e)

-- a row that fits has a value for each column
as_long : {A B : Type 0} (test : A → B → Bool) (xs : List A) (ys : List B) → pointwise test xs ys ≡ true → length ys ≡ length xs
as_long test [] [] e = refl
as_long test [] (y ∷ ys) e = cc
as_long test (x ∷ xs) [] e = cc
as_long test (x ∷ xs) (y ∷ ys) e = ap suc (as_long test xs ys (and_parts _ _ e).1)

pub field_count : (form : LineForm) (fields : List Field) (n : ℕ) → fits form (map field_value fields) ≡ true → n ≡ length form.columns → length fields ≡ n
field_count form fields n fit e = sym (length-map fields field_value) ∙ as_long can_hold form.columns (map field_value fields) fit ∙ sym e

pub ruleset held_rows = (row_held)

pub ruleset keyed = (field_count, All-push)
