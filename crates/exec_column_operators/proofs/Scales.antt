-- One number beside numbers of a scale that is no less.
use Rattle.std.proofs.Common.{◌≡◌, ℕ, ◌≤◌, List, [], ◌∷◌, map, refl, sym, ap, ◌∙◌, max, arith, ℤ, Ok}
use Rattle.std.specs.Prelude.{FitsSigned}
use Rattle.std.specs.Int.{w128}
use Rattle.base_decimal.specs.Decimal.{rescaled, sum_of, difference_of}
use Rattle.base_decimal.proofs.Powers.{same_scale}
use Rattle.base_value.specs.declared.value.Value.{Value}
use Rattle.base_value.specs.declared.value.Value.TheVariants.{Number}
use Rattle.expr_operators.specs.Operators.{computed}
use Rattle.expr_operators.specs.declared.operator.Arithmetic.{Arithmetic}
use Rattle.expr_operators.specs.declared.operator.Arithmetic.TheVariants.{Add, Subtract}
use Rattle.exec_column_operators.specs.Constants.{StandsFor}

own : (z : ℤ) (s : ℕ) → FitsSigned w128 z → rescaled z s s ≡ Ok z
unfolding rescaled
own z s h = sym (same_scale z s s h refl)

module _ (b z : ℤ) (s t : ℕ) (above : t ≤ s) (is : rescaled b t s ≡ Ok z)
    (fits : FitsSigned w128 z) where
  sum_alike : (a : ℤ) → computed Add (Number s a) (Number s z)
      ≡ computed Add (Number s a) (Number t b)
  unfolding sum_of
  sum_alike a =
      let m : max s t ≡ s = omega (arith, above) in
      let n : max s s ≡ s = omega arith in
      rw (m, n, is, own z s fits) refl

  sum_from : (a : ℤ) → computed Add (Number s z) (Number s a)
      ≡ computed Add (Number t b) (Number s a)
  unfolding sum_of
  sum_from a =
      let m : max t s ≡ s = omega (arith, above) in
      let n : max s s ≡ s = omega arith in
      rw (m, n, is, own z s fits) refl

  difference_alike : (a : ℤ) → computed Subtract (Number s a) (Number s z)
      ≡ computed Subtract (Number s a) (Number t b)
  unfolding difference_of
  difference_alike a =
      let m : max s t ≡ s = omega (arith, above) in
      let n : max s s ≡ s = omega arith in
      rw (m, n, is, own z s fits) refl

  difference_from : (a : ℤ) → computed Subtract (Number s z) (Number s a)
      ≡ computed Subtract (Number t b) (Number s a)
  unfolding difference_of
  difference_from a =
      let m : max t s ≡ s = omega (arith, above) in
      let n : max s s ≡ s = omega arith in
      rw (m, n, is, own z s fits) refl

pub stands_for : (b z : ℤ) (s t : ℕ) → t ≤ s → rescaled b t s ≡ Ok z → FitsSigned w128 z
    → StandsFor s (Number s z) (Number t b)
stands_for b z s t h e f = record {
  sum = sum_alike b z s t h e f;
  sum_from = sum_from b z s t h e f;
  difference = difference_alike b z s t h e f;
  difference_from = difference_from b z s t h e f;
}

agree : {A B : Type 0} (f g : A → B) (h : ℤ → A) (xs : List ℤ) → ((x : ℤ) → f (h x) ≡ g (h x))
    → map f (map h xs) ≡ map g (map h xs)
agree f g h [] e = refl
agree f g h (x ∷ xs) e =
    ap (λ y. y ∷ map f (map h xs)) (e x) ∙ ap (λ ys. g (h x) ∷ ys) (agree f g h xs e)

module _ (s : ℕ) (w y : Value) (xs : List ℤ) (seen : List Value) (o : Arithmetic) where
  pub sums_after : o ≡ Add → seen ≡ map (Number s) xs → StandsFor s w y
      → map (λ x. computed o x w) seen ≡ map (λ x. computed o x y) seen
  sums_after is e h = rw (is, e)
      (agree (λ x. computed Add x w) (λ x. computed Add x y) (Number s) xs h.sum)

  pub sums_before : o ≡ Add → seen ≡ map (Number s) xs → StandsFor s w y
      → map (computed o w) seen ≡ map (computed o y) seen
  sums_before is e h = rw (is, e)
      (agree (computed Add w) (computed Add y) (Number s) xs h.sum_from)

  pub differences_after : o ≡ Subtract → seen ≡ map (Number s) xs → StandsFor s w y
      → map (λ x. computed o x w) seen ≡ map (λ x. computed o x y) seen
  differences_after is e h = rw (is, e)
      (agree (λ x. computed Subtract x w) (λ x. computed Subtract x y) (Number s) xs h.difference)

  pub differences_before : o ≡ Subtract → seen ≡ map (Number s) xs → StandsFor s w y
      → map (computed o w) seen ≡ map (computed o y) seen
  differences_before is e h = rw (is, e)
      (agree (computed Subtract w) (computed Subtract y) (Number s) xs h.difference_from)
