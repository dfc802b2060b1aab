-- Arithmetic of decimals whose coefficients are of 64 bits.
use Rattle.std.proofs.Common.{◌≡◌, ℕ, ◌+◌, max, arith, refl, sym, ℤ, pos, negsuc, ◌+ℤ◌, ◌*ℤ◌, Ok, true}
use Rattle.std.specs.Prelude.{FitsSigned, nat_le, ◌-ℤ◌}
use Rattle.std.specs.Int.{w64, w128}
use Rattle.std.proofs.lemmas.Bool.Decides.{nat_tests}
use Rattle.base_decimal.specs.Decimal.{in_range, rescaled, sum_of, difference_of}
use Rattle.base_decimal.proofs.Powers.{same_scale, scaled_alike}
use Rattle.base_value.specs.declared.value.Value.TheVariants.{Number}
use Rattle.expr_operators.specs.Operators.{computed}
use Rattle.expr_operators.specs.declared.operator.Arithmetic.TheVariants.{Add, Subtract, Multiply}

wider : (z : ℤ) → FitsSigned w64 z → FitsSigned w128 z
wider (pos n) h = record { sfits = omega arith }
wider (negsuc n) h = record { sfits = omega arith }

in_range_is : (z : ℤ) → FitsSigned w64 z → in_range z ≡ Ok z
in_range_is (pos n) h = grind (arith, nat_tests)
in_range_is (negsuc n) h = grind (arith, nat_tests)

own_scale : (z : ℤ) (s t : ℕ) → FitsSigned w64 z → s ≡ t → rescaled z s t ≡ Ok z
unfolding rescaled
own_scale z s t h e = sym (same_scale z s t (wider z h) e)

pub sum_is : (x y z : ℤ) (s t : ℕ) → FitsSigned w64 x → FitsSigned w64 y → FitsSigned w64 z → s ≡ t → z ≡ x +ℤ y
    → computed Add (Number s x) (Number t y) ≡ Number s z
unfolding sum_of
sum_is x y z s t f g h e i =
    let m : s ≡ max s t = omega arith in
    let n : t ≡ max s t = omega arith in
    rw (own_scale x s (max s t) f m, own_scale y t (max s t) g n, sym i, in_range_is z h, sym m) refl

pub difference_is : (x y z : ℤ) (s t : ℕ) → FitsSigned w64 x → FitsSigned w64 y → FitsSigned w64 z → s ≡ t → z ≡ x -ℤ y
    → computed Subtract (Number s x) (Number t y) ≡ Number s z
unfolding difference_of
difference_is x y z s t f g h e i =
    let m : s ≡ max s t = omega arith in
    let n : t ≡ max s t = omega arith in
    rw (own_scale x s (max s t) f m, own_scale y t (max s t) g n, sym i, in_range_is z h, sym m) refl

pub product_is : (x y z : ℤ) (s t : ℕ) → FitsSigned w64 z → nat_le (s + t) 18 ≡ true → z ≡ x *ℤ y
    → computed Multiply (Number s x) (Number t y) ≡ Number (s + t) z
product_is x y z s t h e i = rw (e, sym i, in_range_is z h) refl

pub ruleset words = (sum_is, difference_is, product_is)

pub ruleset orders = (scaled_alike)
