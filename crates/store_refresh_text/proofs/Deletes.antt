-- The keys of a delete are read back from their lines.
use Rattle.std.proofs.Common.{◌≡◌, ℕ, suc, ◌^◌, ◌<◌, true, false, not, List, [], ◌∷◌, ◌++◌, length, map, refl, sym, ap, subst, ◌∙◌, arith, append_assoc, ℤ, pos, negsuc, Ok, inl}
use Rattle.std.specs.Prelude.{int_lt}
use Rattle.std.specs.List.{All, list_any}
use Rattle.std.proofs.lemmas.Bool.{and_parts, lt-ltb, ltb-true}
use Rattle.std.proofs.lemmas.List.Elements.{All-nil, All-cons, All-head, All-tail}
use Rattle.base_refusals.specs.declared.refresh.RefreshFile.TheVariants as file
use Rattle.base_value.specs.declared.value.Value.{Value}
use Rattle.base_value.specs.declared.value.Value.TheVariants as value
use Rattle.base_columns.specs.Numbers.{is_small}
use Rattle.base_schema.specs.declared.column.ColumnKind.TheVariants.{Key}
use Rattle.base_schema.specs.Kinds.{is_narrow}
use Rattle.base_schema.specs.LineForm.{LineForm, never_null, refresh_form}
use Rattle.base_decimal.specs.Written.{decimal_read, decimal_written}
use Rattle.store_file_reader.specs.File.{cut_lines, file_rows, line_row}
use Rattle.store_file_reader.specs.Laws.{AreRowsOf}
use Rattle.store_file_reader.specs.Line.{is_bar, row_of, without_end}
use Rattle.store_file_reader.proofs.FieldLaws.{values_to}
use Rattle.store_file_reader.proofs.FileLaws.{rows_are_those}
use Rattle.store_file_reader.proofs.LineCuts.{cut_lines-ended}
use Rattle.store_file_reader.proofs.WholeLines.{concat-cut_lines}
use Rattle.store_state.specs.Keys.{order_key, order_keys}
use Rattle.store_refresh_text.specs.Text.{field_written, keys_text}
use Rattle.store_refresh_text.proofs.Clean.{no_bar, unended, without_last, without_return}
use Rattle.store_refresh_text.proofs.Fields.{Again, number}
use Rattle.store_refresh_text.proofs.Lines.{AreAgain, rows_again}

abbrev form : LineForm
form = refresh_form file.Delete

small : (c : ℤ) → is_narrow c ≡ true → is_small c ≡ true
small (pos n) e = e
small (negsuc n) e = let less : suc n < 2 ^ 63 = ltb-true (suc n) (2 ^ 63) e in lt-ltb n (2 ^ 63) (omega arith)

key_is : (c : ℤ) → is_small c ≡ true → order_key (value.Number 0 c ∷ []) ≡ c
key_is c e = rw e refl

-- a row is its key, which is read back
record KeyRow (row : List Value) : Type 0 where
  is : row ≡ value.Number 0 (order_key row) ∷ []
  again : Again (never_null Key) (value.Number 0 (order_key row))

key_row : (row : List Value) → AreAgain (never_null Key ∷ []) row → KeyRow row
key_row [] a = absurd a
key_row (v ∷ []) a =
    let n = number Key 0 (decimal_read (field_written v) 0) v a.0.said in
    let narrow : is_narrow n.c ≡ true = (and_parts (not (int_lt n.c (pos 0))) (is_narrow n.c) n.holds).1 in
    let key : order_key (v ∷ []) ≡ n.c = ap (λ (x : Value). order_key (x ∷ [])) (sym n.is) ∙ key_is n.c (small n.c narrow) in
    let whole : v ≡ value.Number 0 (order_key (v ∷ [])) = sym n.is ∙ ap (λ (k : ℤ). value.Number 0 k) (sym key) in
    record { is = ap (λ (x : Value). x ∷ []) whole; again = subst (λ x. Again (never_null Key) x) whole a.0 }
key_row (v ∷ w ∷ row) a = absurd a.1

-- a key's line
abbrev key_line : ℤ → List ℕ
key_line key = decimal_written key 0 ++ 10 ∷ []

line_said : (row : List Value) → KeyRow row → line_row form (key_line (order_key row)) ≡ Ok row
line_said row k =
    let key = value.Number 0 (order_key row) in
    let f = field_written key in
    ap (row_of form.columns) (ap (without_end 13) (without_last f) ∙ without_return f k.again.clean)
    ∙ values_to (never_null Key ∷ []) f (omega arith) (key ∷ []) (record {
      fields = f ∷ [];
      parted = record {
        as_many = refl;
        no_bar = All-cons (λ (l : List ℕ). list_any is_bar l ≡ false) f [] (no_bar f k.again.clean) (All-nil (λ (l : List ℕ). list_any is_bar l ≡ false));
        parted = inl refl;
      };
      said = λ i. k.again.said i ∷ [];
    })
    ∙ ap Ok (sym k.is)

lines_said : (rows : List (List Value)) → All (AreAgain (never_null Key ∷ [])) rows → map (line_row form) (map key_line (order_keys rows)) ≡ map Ok rows
lines_said [] a = refl
lines_said (row ∷ rows) a =
    let here = line_said row (key_row row (All-head (AreAgain (never_null Key ∷ [])) row rows a)) in
    let others = lines_said rows (All-tail (AreAgain (never_null Key ∷ [])) row rows a) in
    λ i. here i ∷ others i

cut_keys : (rows : List (List Value)) → All (AreAgain (never_null Key ∷ [])) rows → cut_lines (keys_text (order_keys rows)) ≡ map key_line (order_keys rows)
cut_keys [] a = refl
cut_keys (row ∷ rows) a =
    let k = key_row row (All-head (AreAgain (never_null Key ∷ [])) row rows a) in
    let f = decimal_written (order_key row) 0 in
    ap cut_lines (append_assoc f (10 ∷ []) (keys_text (order_keys rows)))
    ∙ cut_lines-ended f (keys_text (order_keys rows)) (unended f k.again.clean)
    ∙ ap (λ (l : List (List ℕ)). key_line (order_key row) ∷ l) (cut_keys rows (All-tail (AreAgain (never_null Key ∷ [])) row rows a))

-- what a delete file gives is read back from the keys' own text
pub keys_read : (limit : ℕ) (text : List ℕ) (rows : List (List Value)) → file_rows form limit text ≡ Ok rows
    → file_rows form (length (keys_text (order_keys rows))) (keys_text (order_keys rows)) ≡ Ok rows
keys_read limit text rows e =
    let are : AreRowsOf form limit (cut_lines text) rows = (rows_are_those form limit text rows).0 e in
    let each = rows_again form (never_null Key) [] refl (cut_lines text) rows are.fields in
    let own = keys_text (order_keys rows) in
    (rows_are_those form (length own) own rows).1 (record {
      fields = ap (λ ls. map (line_row form) ls) (cut_keys rows each) ∙ lines_said rows each;
      keys = λ u. let bad : false ≡ true = u in cc;
      bytes = omega (arith, ap length (concat-cut_lines own));
    })
