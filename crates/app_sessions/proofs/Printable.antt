-- The rows of an answer have no fault.
use Rattle.std.proofs.Common.{◌≡◌, ℕ, ◌≤◌, List, [], ◌∷◌, Bool, true, false, refl, sym, ◌∙◌, ap, arith, inl, inr, map, take, suc, zero}
use Rattle.std.specs.Prelude.{nat_lt, ◌&&◌, Option, Some, None, Ok, Err, if◌then◌else◌}
use Rattle.std.proofs.lemmas.Bool.{cases_Bool, ltb-false}
use Rattle.base_row_laws.specs.Bags.{bottom}
use Rattle.base_row_laws.specs.Ranked.{Ranked}
use Rattle.base_value.specs.declared.truth.Fault.TheVariants as fault
use Rattle.base_value.specs.declared.value.Value.{Value}
use Rattle.base_value.specs.declared.value.Value.TheVariants as value
use Rattle.expr_aggregates.specs.Values.{value_rank, written}
use Rattle.base_order_limit.specs.declared.key.OrderKey.{OrderKey}
use Rattle.base_order_limit.specs.Answers.{comes_before, finished, in_order, inserted, least_rank, limited, row_values}
use Rattle.app_result_text.specs.Answer.{has_no_fault, is_no_fault, rows_have_no_fault}

-- a value of True's rank is no fault
value_printable : (v : Value) → 5 ≤ value_rank v → is_no_fault v ≡ true
value_printable (value.Fault fault.TooManyRows) h = absurd (omega (arith, h))
value_printable (value.Fault fault.DivideByZero) h = absurd (omega (arith, h))
value_printable (value.Fault fault.NumberRange) h = absurd (omega (arith, h))
value_printable (value.Number scale c) h = refl
value_printable (value.Text text) h = refl
value_printable (value.Date date) h = refl
value_printable value.Null h = refl

both : (p q : Bool) → p ≡ true → q ≡ true → (p && q) ≡ true
both true true a b = refl
both true false a b = b
both false q a b = a

row_printable : (vs : List Value) → 5 ≤ bottom 5 value_rank vs → has_no_fault vs ≡ true
row_printable [] h = refl
row_printable (v ∷ vs) h = both (is_no_fault v) (has_no_fault vs) (value_printable v (omega (arith, h))) (row_printable vs (omega (arith, h)))

all_printable : (xs : List (Ranked Value)) → 5 ≤ least_rank xs → rows_have_no_fault (map row_values xs) ≡ true
all_printable [] h = refl
all_printable (x ∷ xs) h = both (has_no_fault x.values) (rows_have_no_fault (map row_values xs)) (row_printable x.values (omega (arith, h))) (all_printable xs (omega (arith, h)))

pair_true : (p q : Bool) → (p && q) ≡ true → (p ≡ true) × (q ≡ true)
pair_true true q e = (refl, e)
pair_true false q e = absurd (cc)

taken : (n : ℕ) (xs : List (List Value)) → rows_have_no_fault xs ≡ true → rows_have_no_fault (take n xs) ≡ true
taken zero xs h = refl
taken (suc n) [] h = refl
taken (suc n) (x ∷ xs) h =
    let parts = pair_true (has_no_fault x) (rows_have_no_fault xs) h in
    both (has_no_fault x) (rows_have_no_fault (take n xs)) parts.0 (taken n xs parts.1)

put_in : (before : List Value → List Value → Bool) (x : List Value) (ys : List (List Value)) → has_no_fault x ≡ true → rows_have_no_fault ys ≡ true → rows_have_no_fault (inserted before x ys) ≡ true
put_in before x [] a b = both (has_no_fault x) true a refl
put_in before x (y ∷ ys) a b =
    let parts = pair_true (has_no_fault y) (rows_have_no_fault ys) b in
    let later = put_in before x ys a parts.1 in
    elim (cases_Bool (before x y)) [
      | inl t ↦ rw t (both (has_no_fault x) (rows_have_no_fault (y ∷ ys)) a b)
      | inr f ↦ rw f (both (has_no_fault y) (rows_have_no_fault (inserted before x ys)) parts.0 later)
    ]

ordered : (before : List Value → List Value → Bool) (xs : List (List Value)) → rows_have_no_fault xs ≡ true → rows_have_no_fault (in_order before xs) ≡ true
ordered before [] h = refl
ordered before (x ∷ xs) h =
    let parts = pair_true (has_no_fault x) (rows_have_no_fault xs) h in
    put_in before x (in_order before xs) parts.0 (ordered before xs parts.1)

first_ones : (limit : Option ℕ) (xs : List (List Value)) → rows_have_no_fault xs ≡ true → rows_have_no_fault (limited limit xs) ≡ true
first_ones None xs h = h
first_ones (Some n) xs h = taken n xs h

-- so the rows of an answer can be printed
pub finished_printable : (keys : List OrderKey) (limit : Option ℕ) (xs : List (Ranked Value)) (rows : List (List Value)) → finished keys limit xs ≡ Ok rows → rows_have_no_fault rows ≡ true
finished_printable keys limit xs rows e = at (nat_lt (least_rank xs) 5) refl e
  where
    at : (low : Bool) → nat_lt (least_rank xs) 5 ≡ low
        → (if low then Err (written (least_rank xs)) else Ok (limited limit (in_order (comes_before keys) (map row_values xs)))) ≡ Ok rows → rows_have_no_fault rows ≡ true
    at true is made = absurd (cc)
    at false is made =
        let same : limited limit (in_order (comes_before keys) (map row_values xs)) ≡ rows = cc in
        let all = first_ones limit (in_order (comes_before keys) (map row_values xs)) (ordered (comes_before keys) (map row_values xs) (all_printable xs (ltb-false (least_rank xs) 5 is))) in
        ap rows_have_no_fault (sym same) ∙ all
