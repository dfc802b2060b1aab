-- Decimals: a coefficient of signed 128 bits under a scale, the value c / 10^s.
use Rattle.std.specs.Prelude.{ℕ, zero, ◌+◌, ◌-◌, ◌*◌, ◌/◌, ◌^◌, max, Bool, true, false, not, ℤ, pos}
use Rattle.std.specs.Prelude.{negsuc, ◌+ℤ◌, ◌-ℤ◌, ◌*ℤ◌, neg_ℤ, Result, Ok, Err, nat_lt, int_lt}
use Rattle.std.specs.Prelude.{unsigned_abs, if◌then◌else◌}
use Rattle.std.specs.declared.cmp.Ordering.{Ordering}
use Rattle.std.specs.Ordering.{int_cmp}
use Rattle.base_decimal.specs.declared.arithmetic.NumberFault.{NumberFault}
use Rattle.base_decimal.specs.declared.arithmetic.NumberFault.TheVariants.{NumberRange}
use Rattle.base_decimal.specs.declared.arithmetic.NumberFault.TheVariants.{DivideByZero}

-- within signed 128 bits
abbrev pub fits : ℤ → Bool
fits (pos n) = nat_lt n (2 ^ 127)
fits (negsuc n) = nat_lt n (2 ^ 127)

-- the coefficient, or NumberRange past 128 bits
abbrev pub in_range : ℤ → Result ℤ NumberFault
in_range z = if fits z then Ok z else Err NumberRange

-- goes on with a coefficient, or fails
infixl 10 ◌>>=◌
abbrev pub ◌>>=◌ : {A : Type 0} → Result A NumberFault → (A → Result A NumberFault)
    → Result A NumberFault
(Ok x) >>= f = f x
(Err e) >>= f = Err e

-- the coefficient c of scale s at a scale that is no less
unfoldable pub rescaled : ℤ → ℕ → ℕ → Result ℤ NumberFault
rescaled c s t = in_range (c *ℤ pos (10 ^ (t - s)))

-- a + b at the larger of their scales, which both are brought to first
unfoldable pub sum_of : ℤ → ℕ → ℤ → ℕ → Result ℤ NumberFault
sum_of a s b t = do
  x ← rescaled a s (max s t)
  y ← rescaled b t (max s t)
  in_range (x +ℤ y)

-- a - b at the larger of their scales, which both are brought to first
unfoldable pub difference_of : ℤ → ℕ → ℤ → ℕ → Result ℤ NumberFault
difference_of a s b t = do
  x ← rescaled a s (max s t)
  y ← rescaled b t (max s t)
  in_range (x -ℤ y)

-- a * b, at the sum of their scales
abbrev pub product_of : ℤ → ℤ → Result ℤ NumberFault
product_of a b = in_range (a *ℤ b)

-- the whole number nearest to m / n, a half away from zero
abbrev pub nearest_of : ℕ → ℕ → ℕ
nearest_of m n = (2 * m + n) / (2 * n)

-- whether just one of the two is true
abbrev pub not_same : Bool → Bool → Bool
not_same true b = not b
not_same false b = b

-- a number of that size
abbrev pub signed_of : Bool → ℕ → ℤ
signed_of true m = neg_ℤ (pos m)
signed_of false m = pos m

-- the same with signs
abbrev pub nearest : ℤ → ℤ → ℤ
nearest x y = signed_of (not_same (int_lt x (pos 0)) (int_lt y (pos 0)))
    (nearest_of (unsigned_abs x) (unsigned_abs y))

-- the scale of a quotient
abbrev pub quotient_scale : ℕ → ℕ
quotient_scale s = max s 6

-- a quotient of the scale of quotient_scale: the dividend is scaled first
unfoldable pub quotient_of : ℤ → ℕ → ℤ → ℕ → Result ℤ NumberFault
quotient_of a s (pos zero) t = Err DivideByZero
quotient_of a s b t =
    in_range (a *ℤ pos (10 ^ (quotient_scale s - s + t))) >>= λ x. in_range (nearest x b)

-- by the values a / 10^s and b / 10^t, of which each is multiplied by 10^s and 10^t
abbrev pub decimal_cmp : ℤ → ℕ → ℤ → ℕ → Ordering
decimal_cmp a s b t = int_cmp (a *ℤ pos (10 ^ t)) (b *ℤ pos (10 ^ s))
