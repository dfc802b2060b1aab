-- What operators make of known values is known, where their sorts fit.
use Rattle.std.proofs.Common.{◌≡◌, ℕ, ◌+◌, zero, suc, List, [], ◌∷◌, Bool, true, false, not, ◌||◌, nat_le, if◌then◌else◌, refl, ap, sym, ◌∙◌, ℤ, Result, Ok, Err, slice_index_or, slice_get}
use Rattle.std.specs.Cmp.{first_so, second_so}
use Rattle.std.specs.List.{list_all}
use Rattle.std.proofs.lemmas.Bool.Decides.{Decides-eqb}
use Rattle.base_decimal.specs.declared.arithmetic.NumberFault.{NumberFault}
use Rattle.base_decimal.specs.declared.arithmetic.NumberFault.TheVariants as decimal
use Rattle.base_value.specs.declared.value.Value.{Value}
use Rattle.base_value.specs.declared.value.Value.TheVariants.{Null, Fault as Failed, Number, Text, Date}
use Rattle.expr_operators.specs.declared.operator.Arithmetic.{Arithmetic}
use Rattle.expr_operators.specs.declared.operator.Arithmetic.TheVariants.{Add, Subtract, Multiply, Divide}
use Rattle.expr_operators.specs.declared.operator.DatePart.{DatePart}
use Rattle.expr_scalar.specs.declared.kind.Kind.{Kind}
use Rattle.expr_scalar.specs.declared.kind.Kind.TheVariants as kind
use Rattle.expr_scalar.specs.Known.{is_known}
use Rattle.expr_operators.specs.Operators.{number_or_fault, arithmetic, computed, negative, at_scale, extracted, part_of}
use Rattle.expr_scalar.specs.Typing.{is_of_kind, row_is_of, Sort, Unfit, Nulls, Of, column_sort, negative_sort, result_sort, arithmetic_sort, extract_sort, substring_sort, scaled_sort, both_sorts, is_fit}
use Rattle.expr_scalar.proofs.Typed.{fits}

pub or_left : (a b : Bool) → (a || b) ≡ false → a ≡ false
or_left false b h = refl
or_left true b h = cc

pub or_right : (a b : Bool) → (a || b) ≡ false → b ≡ false
or_right false b h = h
or_right true b h = cc

number_known : (s : ℕ) (r : Result ℤ NumberFault) → is_known (number_or_fault s r) ≡ true
number_known s (Ok c) = refl
number_known s (Err decimal.NumberRange) = refl
number_known s (Err decimal.DivideByZero) = refl

test_known : (b : Bool) (k : Kind) (s : ℕ) (r : Result ℤ NumberFault) → is_fit (if b then Of k else Unfit) ≡ true → is_known (if b then number_or_fault s r else Null) ≡ true
test_known true k s r h = number_known s r
test_known false k s r h = cc

result_known : (operator : Arithmetic) (s t : ℕ) (a b : ℤ) → is_fit (result_sort operator s t) ≡ true → is_known (arithmetic operator s a t b) ≡ true
result_known Add s t a b h = number_known _ _
result_known Subtract s t a b h = number_known _ _
result_known Multiply s t a b h = test_known (nat_le (s + t) 18) (kind.Number (s + t)) (s + t) _ h
result_known Divide s t a b h = number_known _ _

pub negative_known : (x : Sort) (v : Value) → fits x v ≡ true → is_known v ≡ true → is_fit (negative_sort x) ≡ true → is_known (negative v) ≡ true
negative_known (Of (kind.Number s)) Null h k g = cc
negative_known (Of (kind.Number s)) (Failed a) h k g = refl
negative_known (Of (kind.Number s)) (Number t c) h k g = number_known t _
negative_known (Of (kind.Number s)) (Text t) h k g = cc
negative_known (Of (kind.Number s)) (Date d) h k g = cc
negative_known (Of kind.Text) v h k g = cc
negative_known (Of kind.Date) v h k g = cc
negative_known Nulls v h k g = cc
negative_known Unfit v h k g = cc

both_numbers : (operator : Arithmetic) (s t : ℕ) (v w : Value) → fits (Of (kind.Number s)) v ≡ true → fits (Of (kind.Number t)) w ≡ true → is_known v ≡ true → is_known w ≡ true
    → is_fit (result_sort operator s t) ≡ true → is_known (computed operator v w) ≡ true
both_numbers operator s t Null w h k a b g = cc
both_numbers operator s t (Failed x) Null h k a b g = cc
both_numbers operator s t (Failed x) (Failed y) h k a b g = refl
both_numbers operator s t (Failed x) (Number u c) h k a b g = refl
both_numbers operator s t (Failed x) (Text y) h k a b g = refl
both_numbers operator s t (Failed x) (Date y) h k a b g = refl
both_numbers operator s t (Number r c) Null h k a b g = cc
both_numbers operator s t (Number r c) (Failed y) h k a b g = refl
both_numbers operator s t (Number r c) (Number u d) h k a b g =
    let left : s ≡ r = (Decides-eqb s r).0 h in
    let right : t ≡ u = (Decides-eqb t u).0 k in
    let fit : is_fit (result_sort operator r u) ≡ true = ap (λ z. is_fit (result_sort operator z u)) (sym left) ∙ ap (λ z. is_fit (result_sort operator s z)) (sym right) ∙ g in
    result_known operator r u c d fit
both_numbers operator s t (Number r c) (Text y) h k a b g = cc
both_numbers operator s t (Number r c) (Date y) h k a b g = cc
both_numbers operator s t (Text x) w h k a b g = cc
both_numbers operator s t (Date x) w h k a b g = cc

pub arithmetic_known : (operator : Arithmetic) (x y : Sort) (v w : Value) → fits x v ≡ true → fits y w ≡ true → is_known v ≡ true → is_known w ≡ true
    → is_fit (arithmetic_sort operator x y) ≡ true → is_known (computed operator v w) ≡ true
arithmetic_known operator (Of (kind.Number s)) (Of (kind.Number t)) v w h k a b g = both_numbers operator s t v w h k a b g
arithmetic_known operator (Of (kind.Number s)) (Of kind.Text) v w h k a b g = cc
arithmetic_known operator (Of (kind.Number s)) (Of kind.Date) v w h k a b g = cc
arithmetic_known operator (Of (kind.Number s)) Nulls v w h k a b g = cc
arithmetic_known operator (Of (kind.Number s)) Unfit v w h k a b g = cc
arithmetic_known operator (Of kind.Text) y v w h k a b g = cc
arithmetic_known operator (Of kind.Date) y v w h k a b g = cc
arithmetic_known operator Nulls y v w h k a b g = cc
arithmetic_known operator Unfit y v w h k a b g = cc

pub left_fits : (operator : Arithmetic) (x y : Sort) → is_fit (arithmetic_sort operator x y) ≡ true → is_fit x ≡ true
left_fits operator Unfit y h = cc
left_fits operator Nulls y h = refl
left_fits operator (Of k) y h = refl

pub right_fits : (operator : Arithmetic) (x y : Sort) → is_fit (arithmetic_sort operator x y) ≡ true → is_fit y ≡ true
right_fits operator x Nulls h = refl
right_fits operator x (Of k) h = refl
right_fits operator Unfit Unfit h = cc
right_fits operator Nulls Unfit h = cc
right_fits operator (Of (kind.Number s)) Unfit h = cc
right_fits operator (Of kind.Text) Unfit h = cc
right_fits operator (Of kind.Date) Unfit h = cc

pub extract_known : (part : DatePart) (x : Sort) (v : Value) → fits x v ≡ true → is_known v ≡ true → is_fit (extract_sort x) ≡ true → is_known (extracted part v) ≡ true
extract_known part (Of kind.Date) Null h k g = cc
extract_known part (Of kind.Date) (Failed a) h k g = refl
extract_known part (Of kind.Date) (Date d) h k g = refl
extract_known part (Of kind.Date) (Number s c) h k g = cc
extract_known part (Of kind.Date) (Text t) h k g = cc
extract_known part (Of kind.Text) v h k g = cc
extract_known part (Of (kind.Number s)) v h k g = cc
extract_known part Nulls v h k g = cc
extract_known part Unfit v h k g = cc

pub substring_known : (from count : ℕ) (x : Sort) (v : Value) → fits x v ≡ true → is_known v ≡ true → is_fit (substring_sort x) ≡ true → is_known (part_of from count v) ≡ true
substring_known from count (Of kind.Text) Null h k g = cc
substring_known from count (Of kind.Text) (Failed a) h k g = refl
substring_known from count (Of kind.Text) (Text t) h k g = refl
substring_known from count (Of kind.Text) (Number s c) h k g = cc
substring_known from count (Of kind.Text) (Date d) h k g = cc
substring_known from count (Of kind.Date) v h k g = cc
substring_known from count (Of (kind.Number s)) v h k g = cc
substring_known from count Nulls v h k g = cc
substring_known from count Unfit v h k g = cc

pub scaled_known : (scale : ℕ) (x : Sort) (v : Value) → fits x v ≡ true → is_known v ≡ true → is_fit (scaled_sort scale x) ≡ true → is_known (at_scale scale v) ≡ true
scaled_known scale x Null h k g = cc
scaled_known scale x (Failed a) h k g = refl
scaled_known scale x (Text t) h k g = refl
scaled_known scale x (Date d) h k g = refl
scaled_known scale Unfit (Number s c) h k g = cc
scaled_known scale Nulls (Number s c) h k g = cc
scaled_known scale (Of kind.Text) (Number s c) h k g = cc
scaled_known scale (Of kind.Date) (Number s c) h k g = cc
scaled_known scale (Of (kind.Number r)) (Number s c) h k g =
    let is : r ≡ s = (Decides-eqb r s).0 h in
    test_known (nat_le s scale) (kind.Number scale) scale _ (ap (λ z. is_fit (scaled_sort scale (Of (kind.Number z)))) (sym is) ∙ g)

-- an operand of a sort that fits, where what is made of an unfit one does not
pub inside_fits : (g : Sort → Sort) → g Unfit ≡ Unfit → (x : Sort) → is_fit (g x) ≡ true → is_fit x ≡ true
inside_fits g none Unfit h = let no : false ≡ true = ap is_fit (sym none) ∙ h in cc
inside_fits g none Nulls h = refl
inside_fits g none (Of k) h = refl

pub first_fits : (x y : Sort) → is_fit (both_sorts x y) ≡ true → is_fit x ≡ true
first_fits Unfit y h = cc
first_fits Nulls y h = refl
first_fits (Of k) y h = refl

pub second_fits : (x y : Sort) → is_fit (both_sorts x y) ≡ true → is_fit y ≡ true
second_fits Unfit y h = cc
second_fits Nulls y h = h
second_fits (Of k) Unfit h = cc
second_fits (Of k) Nulls h = refl
second_fits (Of k) (Of j) h = refl

pub column_known : (ks : List Kind) (row : List Value) (i : ℕ) → row_is_of ks row ≡ true → list_all is_known row ≡ true → is_fit (column_sort (slice_get ks i)) ≡ true
    → is_known (slice_index_or row i Null) ≡ true
column_known [] row i r k g = cc
column_known (j ∷ ks) [] i r k g = cc
column_known (j ∷ ks) (v ∷ vs) zero r k g = first_so (is_known v) (list_all is_known vs) k
column_known (j ∷ ks) (v ∷ vs) (suc i) r k g =
    column_known ks vs i (second_so (is_of_kind j v) (row_is_of ks vs) r) (second_so (is_known v) (list_all is_known vs) k) g

pub literal_known : (v : Value) → not (is_known v) ≡ false → is_known v ≡ true
literal_known Null h = cc
literal_known (Failed a) h = refl
literal_known (Number s c) h = refl
literal_known (Text t) h = refl
literal_known (Date d) h = refl
