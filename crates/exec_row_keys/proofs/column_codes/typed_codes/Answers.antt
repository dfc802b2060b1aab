use Rattle.std.proofs.Common.{List, refl, sym, subst, map, [], rules}
use Rattle.std.proofs.lemmas.Option.{IfSome_then}
use Rattle.base_columns.specs.Lists.{gathered}
use Rattle.base_null_marks.specs.Marks.{marked}
use Rattle.base_value.specs.declared.value.Value.{Value}
use Rattle.base_value.specs.declared.value.Value.TheVariants.{Null, Number, Date, Text}
use Rattle.exec_row_keys.specs.Keys.{AreCodes, HasNoNull}
use Rattle.exec_row_keys.proofs.NullCodes.{no_null}
use Rattle.exec_row_keys.proofs.column_codes.typed_codes.Goals as goal

pub returns-in-Some : goal.returns-in-Some
returns-in-Some c =
    let a = c.in-Some in
    let values = map (Number a.scale) a.numbers.now in
    let codes : AreCodes values c.in_ok-codes.codes.items = search rules in
    IfSome_then c.with_null_code.result (search rules)
    (λ v (h : (xs : List Value) → HasNoNull xs → AreCodes xs c.in_ok-codes.codes.items → AreCodes (marked Null a.marks.now xs) v.items).
    subst (λ vs. AreCodes vs v.items) (sym a.ensures) (h values (no_null (Number a.scale) a.numbers.now (λ x. refl)) codes))

pub returns-in-Some-marked_dates : goal.returns-in-Some-marked_dates
returns-in-Some-marked_dates c =
    let a = c.in-Some-marked_dates in
    let values = map Date a.dates.now in
    let codes : AreCodes values c.in_ok-codes-2.codes.items = search rules in
    IfSome_then c.with_null_code-in-Some-marked_dates.result (search rules)
    (λ v (h : (xs : List Value) → HasNoNull xs → AreCodes xs c.in_ok-codes-2.codes.items → AreCodes (marked Null a.marks.now xs) v.items).
    subst (λ vs. AreCodes vs v.items) (sym a.ensures) (h values (no_null Date a.dates.now (λ x. refl)) codes))

pub returns-in-Some-marked_codes : goal.returns-in-Some-marked_codes
returns-in-Some-marked_codes c =
    let a = c.in-Some-marked_codes in
    let texts = gathered [] a.dictionary.now a.places.now in
    let codes : AreCodes (map Text texts) c.in_ok-codes-3.codes.items = search rules in
    IfSome_then c.with_null_code-in-Some-marked_codes.result (search rules)
    (λ v (h : (xs : List Value) → HasNoNull xs → AreCodes xs c.in_ok-codes-3.codes.items → AreCodes (marked Null a.marks.now xs) v.items).
    subst (λ vs. AreCodes vs v.items) (sym a.ensures.texts) (h (map Text texts) (no_null Text texts (λ x. refl)) codes))
