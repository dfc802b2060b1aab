-- Lemmas on codes of values some of which are null.
use Rattle.std.proofs.Common.{◌≡◌, ℕ, ◌+◌, ◌<◌, ◌≤◌, suc, zero, List, [], ◌∷◌, refl, sym, ap, ◌∙◌, arith, length, get_or, take, map, Bool, true, false, cond, ℤ}
use Rattle.std.specs.Ordering.{int_eq}
use Rattle.std.proofs.lemmas.List.{take_all}
use Rattle.std.proofs.lemmas.Cmp.{int_eq_equiv}
use Rattle.base_null_marks.specs.Marks.{marked, has}
use Rattle.base_null_marks.proofs.MarkLaws.{length-marked, at-marked, get-marked}
use Rattle.base_value.specs.Value.{same_value}
use Rattle.base_value.specs.declared.value.Value.{Value}
use Rattle.base_value.specs.declared.value.Value.TheVariants.{Null, Fault, Number, Text, Date}
use Rattle.exec_row_keys.specs.Keys.{AreCodes, HasNoNull, IsFree}

null_is_no_value : (x : Value) → same_value x Null ≡ false → same_value Null x ≡ false
null_is_no_value Null e = e
null_is_no_value (Fault f) e = refl
null_is_no_value (Number s a) e = refl
null_is_no_value (Text t) e = refl
null_is_no_value (Date d) e = refl

same_code : (a b : Bool) (c k z : ℤ) (x y : Value) → int_eq c z ≡ false → int_eq k z ≡ false → same_value x Null ≡ false → same_value y Null ≡ false → int_eq c k ≡ same_value x y
    → int_eq (cond a z c) (cond b z k) ≡ same_value (cond a Null x) (cond b Null y)
same_code true true c k z x y f g m n e = int_eq_equiv.refl z
same_code true false c k z x y f g m n e = int_eq_equiv.symm z k ∙ g ∙ sym (null_is_no_value y n)
same_code false true c k z x y f g m n e = f ∙ sym m
same_code false false c k z x y f g m n e = e

pub codes_are : (ms : List Bool) (xs : List Value) (cs found : List ℤ) (z : ℤ) → IsFree cs z → found ≡ marked z ms cs → HasNoNull xs → AreCodes xs cs → AreCodes (marked Null ms xs) found
codes_are ms xs cs found z f o h a = record {
  long = ap length o ∙ length-marked z ms cs ∙ a.long ∙ sym (length-marked Null ms xs);
  tells = λ i j d e k l.
      let m : i < length xs = omega (arith, k, length-marked Null ms xs) in
      let n : j < length xs = omega (arith, l, length-marked Null ms xs) in
      let p : i < length cs = omega (arith, m, a.long) in
      let q : j < length cs = omega (arith, n, a.long) in
      rw (o, at-marked z d ms cs i p, at-marked z e ms cs j q, get-marked Null ms xs i, get-marked Null ms xs j)
      (same_code (has ms i) (has ms j) (get_or cs i d) (get_or cs j e) z (get_or xs i Null) (get_or xs j Null) (f i d p) (f j e q) (h i Null m) (h j Null n) (a.tells i j d e m n));
}

pub plain_codes_are : (ms : List Bool) (xs : List Value) (cs : List ℤ) → ms ≡ [] → AreCodes xs cs → AreCodes (marked Null ms xs) cs
plain_codes_are [] xs cs e h = h
plain_codes_are (m ∷ ms) xs cs e h = absurd (cc)

pub ruleset codes = (codes_are, plain_codes_are)

pub no_null : {A : Type 0} (f : A → Value) (xs : List A) → ((x : A) → same_value (f x) Null ≡ false) → HasNoNull (map f xs)
no_null f [] h k d l = absurd (omega (arith, l))
no_null f (x ∷ xs) h zero d l = h x
no_null f (x ∷ xs) h (suc k) d l = no_null f xs h k d (omega (arith, l))

one_more : (x z : ℤ) (xs : List ℤ) → int_eq x z ≡ false → IsFree xs z → IsFree (x ∷ xs) z
one_more x z xs e f zero c l = e
one_more x z xs e f (suc k) c l = f k c (omega (arith, l))

none_free : (xs : List ℤ) (z : ℤ) → IsFree (take 0 xs) z
none_free xs z k c l = absurd (omega (arith, l))

pub free_more : (xs : List ℤ) (i : ℕ) (z d : ℤ) → i < length xs → IsFree (take i xs) z → int_eq (get_or xs i d) z ≡ false → IsFree (take (i + 1) xs) z
free_more [] i z d h f e = absurd (omega (arith, h))
free_more (x ∷ xs) zero z d h f e = one_more x z (take 0 xs) e (none_free xs z)
free_more (x ∷ xs) (suc i) z d h f e =
    let n : suc i + 1 ≡ suc (i + 1) = omega arith in
    rw n (one_more x z (take (i + 1) xs) (f 0 d (omega arith)) (free_more xs i z d (omega (arith, h)) (λ k c l. f (suc k) c (omega (arith, l))) e))

pub all_free : (xs : List ℤ) (i : ℕ) (z : ℤ) → length xs ≤ i → IsFree (take i xs) z → IsFree xs z
all_free xs i z h f = rw (← take_all i xs h) f
