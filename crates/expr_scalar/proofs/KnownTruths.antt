-- Tests of known values are decided, where their sorts fit.
use Rattle.std.proofs.Common.{◌≡◌, ℕ, List, [], ◌∷◌, fold, Bool, true, false, nat_le, if◌then◌else◌, refl}
use Rattle.std.specs.Cmp.{first_so, second_so}
use Rattle.std.specs.List.{list_all}
use Rattle.base_text.specs.Pattern.{is_like}
use Rattle.base_value.specs.Truth.{lesser, greater, negated, truth_rank}
use Rattle.base_value.specs.declared.truth.Standing.TheVariants.{AtFault, AtTrue}
use Rattle.base_value.specs.declared.truth.Truth.{Truth}
use Rattle.base_value.specs.declared.truth.Truth.TheVariants.{False, Unknown, Stands}
use Rattle.base_value.specs.declared.value.Value.{Value}
use Rattle.base_value.specs.declared.value.Value.TheVariants.{Null, Fault as Failed, Number, Text, Date}
use Rattle.expr_operators.specs.declared.operator.Comparison.{Comparison}
use Rattle.expr_scalar.specs.declared.kind.Kind.TheVariants as kind
use Rattle.expr_scalar.specs.Known.{is_known}
use Rattle.expr_operators.specs.Operators.{truth_of, compared, liked, null_test, truth_of_mark}
use Rattle.expr_scalar.specs.Typing.{Sort, Unfit, Nulls, Of, comparable, is_text, is_number, is_fit}
use Rattle.expr_scalar.proofs.Typed.{fits}

-- a truth other than Unknown
abbrev pub is_decided : Truth → Bool
is_decided Unknown = false
is_decided t = true

test_decided : (b : Bool) → is_decided (truth_of b) ≡ true
test_decided true = refl
test_decided false = refl

chosen_decided : (b : Bool) (t u : Truth) → is_decided t ≡ true → is_decided u ≡ true → is_decided (if b then t else u) ≡ true
chosen_decided true t u h k = h
chosen_decided false t u h k = k

pub lesser_decided : (t u : Truth) → is_decided t ≡ true → is_decided u ≡ true → is_decided (lesser t u) ≡ true
lesser_decided t u h k = chosen_decided (nat_le (truth_rank t) (truth_rank u)) t u h k

greater_decided : (t u : Truth) → is_decided t ≡ true → is_decided u ≡ true → is_decided (greater t u) ≡ true
greater_decided t u h k = chosen_decided (nat_le (truth_rank t) (truth_rank u)) u t k h

pub negated_decided : (t : Truth) → is_decided t ≡ true → is_decided (negated t) ≡ true
negated_decided False h = refl
negated_decided Unknown h = cc
negated_decided (Stands (AtFault a)) h = refl
negated_decided (Stands AtTrue) h = refl

pub least_decided : (ts : List Truth) (t : Truth) → is_decided t ≡ true → list_all is_decided ts ≡ true → is_decided (fold lesser t ts) ≡ true
least_decided [] t h k = h
least_decided (u ∷ ts) t h k =
    least_decided ts (lesser t u) (lesser_decided t u h (first_so (is_decided u) (list_all is_decided ts) k)) (second_so (is_decided u) (list_all is_decided ts) k)

pub greatest_decided : (ts : List Truth) (t : Truth) → is_decided t ≡ true → list_all is_decided ts ≡ true → is_decided (fold greater t ts) ≡ true
greatest_decided [] t h k = h
greatest_decided (u ∷ ts) t h k =
    greatest_decided ts (greater t u) (greater_decided t u h (first_so (is_decided u) (list_all is_decided ts) k)) (second_so (is_decided u) (list_all is_decided ts) k)

-- two values of one kind
numbers_decided : (c : Comparison) (s t : ℕ) (v w : Value) → fits (Of (kind.Number s)) v ≡ true → fits (Of (kind.Number t)) w ≡ true → is_known v ≡ true → is_known w ≡ true
    → is_decided (compared c v w) ≡ true
numbers_decided c s t Null w h k a b = cc
numbers_decided c s t (Failed x) Null h k a b = cc
numbers_decided c s t (Failed x) (Failed y) h k a b = refl
numbers_decided c s t (Failed x) (Number u d) h k a b = refl
numbers_decided c s t (Failed x) (Text y) h k a b = refl
numbers_decided c s t (Failed x) (Date y) h k a b = refl
numbers_decided c s t (Number r n) Null h k a b = cc
numbers_decided c s t (Number r n) (Failed y) h k a b = refl
numbers_decided c s t (Number r n) (Number u d) h k a b = test_decided _
numbers_decided c s t (Number r n) (Text y) h k a b = cc
numbers_decided c s t (Number r n) (Date y) h k a b = cc
numbers_decided c s t (Text x) w h k a b = cc
numbers_decided c s t (Date x) w h k a b = cc

texts_decided : (c : Comparison) (v w : Value) → fits (Of kind.Text) v ≡ true → fits (Of kind.Text) w ≡ true → is_known v ≡ true → is_known w ≡ true
    → is_decided (compared c v w) ≡ true
texts_decided c Null w h k a b = cc
texts_decided c (Failed x) Null h k a b = cc
texts_decided c (Failed x) (Failed y) h k a b = refl
texts_decided c (Failed x) (Number u d) h k a b = refl
texts_decided c (Failed x) (Text y) h k a b = refl
texts_decided c (Failed x) (Date y) h k a b = refl
texts_decided c (Text x) Null h k a b = cc
texts_decided c (Text x) (Failed y) h k a b = refl
texts_decided c (Text x) (Text y) h k a b = test_decided _
texts_decided c (Text x) (Number u d) h k a b = cc
texts_decided c (Text x) (Date y) h k a b = cc
texts_decided c (Number r n) w h k a b = cc
texts_decided c (Date x) w h k a b = cc

dates_decided : (c : Comparison) (v w : Value) → fits (Of kind.Date) v ≡ true → fits (Of kind.Date) w ≡ true → is_known v ≡ true → is_known w ≡ true
    → is_decided (compared c v w) ≡ true
dates_decided c Null w h k a b = cc
dates_decided c (Failed x) Null h k a b = cc
dates_decided c (Failed x) (Failed y) h k a b = refl
dates_decided c (Failed x) (Number u d) h k a b = refl
dates_decided c (Failed x) (Text y) h k a b = refl
dates_decided c (Failed x) (Date y) h k a b = refl
dates_decided c (Date x) Null h k a b = cc
dates_decided c (Date x) (Failed y) h k a b = refl
dates_decided c (Date x) (Date y) h k a b = test_decided _
dates_decided c (Date x) (Number u d) h k a b = cc
dates_decided c (Date x) (Text y) h k a b = cc
dates_decided c (Number r n) w h k a b = cc
dates_decided c (Text x) w h k a b = cc

pub compared_decided : (c : Comparison) (x y : Sort) (v w : Value) → fits x v ≡ true → fits y w ≡ true → is_known v ≡ true → is_known w ≡ true → comparable x y ≡ true
    → is_decided (compared c v w) ≡ true
compared_decided c (Of (kind.Number s)) (Of (kind.Number t)) v w h k a b g = numbers_decided c s t v w h k a b
compared_decided c (Of kind.Text) (Of kind.Text) v w h k a b g = texts_decided c v w h k a b
compared_decided c (Of kind.Date) (Of kind.Date) v w h k a b g = dates_decided c v w h k a b
compared_decided c (Of (kind.Number s)) (Of kind.Text) v w h k a b g = cc
compared_decided c (Of (kind.Number s)) (Of kind.Date) v w h k a b g = cc
compared_decided c (Of (kind.Number s)) Nulls v w h k a b g = cc
compared_decided c (Of (kind.Number s)) Unfit v w h k a b g = cc
compared_decided c (Of kind.Text) (Of (kind.Number t)) v w h k a b g = cc
compared_decided c (Of kind.Text) (Of kind.Date) v w h k a b g = cc
compared_decided c (Of kind.Text) Nulls v w h k a b g = cc
compared_decided c (Of kind.Text) Unfit v w h k a b g = cc
compared_decided c (Of kind.Date) (Of (kind.Number t)) v w h k a b g = cc
compared_decided c (Of kind.Date) (Of kind.Text) v w h k a b g = cc
compared_decided c (Of kind.Date) Nulls v w h k a b g = cc
compared_decided c (Of kind.Date) Unfit v w h k a b g = cc
compared_decided c Nulls y v w h k a b g = cc
compared_decided c Unfit y v w h k a b g = cc

pub comparable_left : (x y : Sort) → comparable x y ≡ true → is_fit x ≡ true
comparable_left Unfit y h = cc
comparable_left Nulls y h = refl
comparable_left (Of k) y h = refl

pub comparable_right : (x y : Sort) → comparable x y ≡ true → is_fit y ≡ true
comparable_right x Nulls h = refl
comparable_right x (Of k) h = refl
comparable_right Unfit Unfit h = cc
comparable_right Nulls Unfit h = cc
comparable_right (Of (kind.Number s)) Unfit h = cc
comparable_right (Of kind.Text) Unfit h = cc
comparable_right (Of kind.Date) Unfit h = cc

pub liked_decided : (pattern : List ℕ) (x : Sort) (v : Value) → fits x v ≡ true → is_known v ≡ true → is_text x ≡ true → is_decided (liked pattern v) ≡ true
liked_decided pattern (Of kind.Text) Null h k g = cc
liked_decided pattern (Of kind.Text) (Failed a) h k g = refl
liked_decided pattern (Of kind.Text) (Text t) h k g = test_decided (is_like pattern t)
liked_decided pattern (Of kind.Text) (Number s c) h k g = cc
liked_decided pattern (Of kind.Text) (Date d) h k g = cc
liked_decided pattern (Of kind.Date) v h k g = cc
liked_decided pattern (Of (kind.Number s)) v h k g = cc
liked_decided pattern Nulls v h k g = cc
liked_decided pattern Unfit v h k g = cc

pub text_fits : (x : Sort) → is_text x ≡ true → is_fit x ≡ true
text_fits Unfit h = cc
text_fits Nulls h = refl
text_fits (Of k) h = refl

pub mark_decided : (x : Sort) (v : Value) → fits x v ≡ true → is_known v ≡ true → is_number x ≡ true → is_decided (truth_of_mark v) ≡ true
mark_decided (Of (kind.Number s)) Null h k g = cc
mark_decided (Of (kind.Number s)) (Failed a) h k g = refl
mark_decided (Of (kind.Number s)) (Number t c) h k g = test_decided _
mark_decided (Of (kind.Number s)) (Text t) h k g = cc
mark_decided (Of (kind.Number s)) (Date d) h k g = cc
mark_decided (Of kind.Text) v h k g = cc
mark_decided (Of kind.Date) v h k g = cc
mark_decided Nulls v h k g = cc
mark_decided Unfit v h k g = cc

pub number_fits : (x : Sort) → is_number x ≡ true → is_fit x ≡ true
number_fits Unfit h = cc
number_fits Nulls h = refl
number_fits (Of k) h = refl

pub null_test_decided : (v : Value) → is_decided (null_test v) ≡ true
null_test_decided Null = refl
null_test_decided (Failed a) = refl
null_test_decided (Number s c) = refl
null_test_decided (Text t) = refl
null_test_decided (Date d) = refl
