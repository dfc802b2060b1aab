-- Where a text is cut, and the values of the fields so far.
use Rattle.std.proofs.Common.{◌≡◌, ℕ, ◌+◌, ◌<◌, ◌≤◌, Bool, true, false, cond, List, [], ◌∷◌, ◌++◌, length, map, take, drop, get_or, refl, sym, ◌∙◌, ap, arith, append_assoc, add-one, Some, None, Result, Ok, Err, is_ok, is_err}
use Rattle.std.specs.List.{position, position_or_len, before_first, after_first}
use Rattle.std.proofs.lemmas.Bool.{ltb-false}
use Rattle.std.proofs.lemmas.Option.{cond_some}
use Rattle.std.proofs.lemmas.List.{take_all, append-nil, map-append}
use Rattle.std.proofs.lemmas.List.Elements.{All-push}
use Rattle.std.proofs.Math.ListN.{drop_of_length-le}
use Rattle.std.proofs.Math.Seq.{drop-cons}
use Rattle.base_columns.specs.declared.field.Field.{Field}
use Rattle.base_columns.specs.Fields.{field_value}
use Rattle.base_refusals.specs.declared.line.LineFault.{LineFault}
use Rattle.base_value.specs.declared.value.Value.{Value}
use Rattle.base_schema.specs.declared.column.LineColumn.{LineColumn}
use Rattle.store_file_reader.specs.Field.{column_value}
use Rattle.store_file_reader.specs.Line.{is_bar, put_first, values_of}

none_from : (b : Bool) (a : ℕ) → cond b (Some a) None ≡ None → b ≡ false
none_from true a e = cc
none_from false a e = refl

-- what stands before and after the first place
pub before_first-some : (p : ℕ → Bool) (xs : List ℕ) (i : ℕ) → position p xs ≡ Some i → before_first p xs ≡ take i xs
before_first-some p xs i e = ap (λ n. take n xs) (cond_some _ _ _ e).1

pub after_first-some : (p : ℕ → Bool) (xs : List ℕ) (i : ℕ) → position p xs ≡ Some i → after_first p xs ≡ drop (i + 1) xs
after_first-some p xs i e = ap (λ n. drop (n + 1) xs) (cond_some _ _ _ e).1

pub before_first-none : (p : ℕ → Bool) (xs : List ℕ) → position p xs ≡ None → before_first p xs ≡ xs
before_first-none p xs e = take_all _ xs (ltb-false _ _ (none_from _ _ e))

pub after_first-none : (p : ℕ → Bool) (xs : List ℕ) → position p xs ≡ None → after_first p xs ≡ []
after_first-none p xs e =
    let past : length xs ≤ position_or_len p xs = ltb-false _ _ (none_from _ _ e) in
    drop_of_length-le xs (omega (arith, past))

-- the values of the fields so far before those of the rest
abbrev pub before : List Value → Result (List Value) LineFault → Result (List Value) LineFault
before vs (Ok ws) = Ok (vs ++ ws)
before vs (Err fault) = Err fault

before-put_first : (vs : List Value) (v : Value) (r : Result (List Value) LineFault) → before vs (put_first (Ok v) r) ≡ before (vs ++ v ∷ []) r
before-put_first vs v (Ok ws) = ap Ok (sym (append_assoc vs (v ∷ []) ws))
before-put_first vs v (Err fault) = refl

pub values_more : (columns : List LineColumn) (i : ℕ) (d : LineColumn) (text : List ℕ) (vs : List Value) (v : Value) → i < length columns
    → column_value (get_or columns i d) (before_first is_bar text) ≡ Ok v
    → before vs (values_of (drop i columns) text) ≡ before (vs ++ v ∷ []) (values_of (drop (i + 1) columns) (after_first is_bar text))
values_more columns i d text vs v h e =
    rw (add-one, drop-cons columns i d h, e) (before-put_first vs v _)

pub fields_more : (columns : List LineColumn) (i : ℕ) (d : LineColumn) (text : List ℕ) (fields new : List Field) (field : Field) → i < length columns
    → column_value (get_or columns i d) (before_first is_bar text) ≡ Ok (field_value field) → new ≡ fields ++ field ∷ []
    → before (map field_value fields) (values_of (drop i columns) text)
    ≡ before (map field_value new) (values_of (drop (i + 1) columns) (after_first is_bar text))
fields_more columns i d text fields new field h e made =
    let shape : map field_value new ≡ map field_value fields ++ field_value field ∷ [] = ap (map field_value) made ∙ map-append field_value fields (field ∷ []) in
    values_more columns i d text (map field_value fields) (field_value field) h e
    ∙ ap (λ vs. before vs (values_of (drop (i + 1) columns) (after_first is_bar text))) (sym shape)

pub values_fault : (columns : List LineColumn) (i : ℕ) (d : LineColumn) (text : List ℕ) (vs : List Value) (fault : LineFault) → i < length columns
    → column_value (get_or columns i d) (before_first is_bar text) ≡ Err fault
    → before vs (values_of (drop i columns) text) ≡ Err fault
values_fault columns i d text vs fault h e = rw (drop-cons columns i d h, e) refl

pub values_all : (columns : List LineColumn) (i : ℕ) (text : List ℕ) (vs : List Value) → length columns ≤ i
    → before vs (values_of (drop i columns) text) ≡ Ok vs
values_all columns i text vs h = rw (drop_of_length-le columns h) (ap Ok (append-nil vs))

pub ruleset cuts = (before_first-some, after_first-some, before_first-none, after_first-none)

-- an answer that is no error
pub ok_since : {A E : Type 0} (r : Result A E) → is_err r ≡ false → is_ok r ≡ true
ok_since (Ok a) e = refl
ok_since (Err error) e = cc

pub ruleset fields = (fields_more, values_fault, values_all, All-push)
