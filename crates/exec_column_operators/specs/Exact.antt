-- Where 64 bits do the arithmetic of decimals.
use Rattle.std.specs.Prelude.{ℕ, ℤ, ◌+◌, Bool, false, nat_le, ◌==◌}
use Rattle.base_value.specs.declared.truth.Truth.{Truth}
use Rattle.base_value.specs.declared.value.Value.TheVariants.{Number, Date}
use Rattle.expr_operators.specs.Operators.{compared}
use Rattle.expr_operators.specs.declared.operator.Comparison.{Comparison}
use Rattle.expr_operators.specs.declared.operator.Arithmetic.{Arithmetic}
use Rattle.expr_operators.specs.declared.operator.Arithmetic.TheVariants.{Add, Subtract, Multiply}
use Rattle.expr_operators.specs.declared.operator.Arithmetic.TheVariants.{Divide}

-- the operator is taken at coefficients of these scales as they are
abbrev pub is_exact : Arithmetic → ℕ → ℕ → Bool
is_exact Add s t = s == t
is_exact Subtract s t = s == t
is_exact Multiply s t = nat_le (s + t) 18
is_exact Divide s t = false

-- the scale of what it gives
abbrev pub exact_scale : Arithmetic → ℕ → ℕ → ℕ
exact_scale Add s t = s
exact_scale Subtract s t = s
exact_scale Multiply s t = s + t
exact_scale Divide s t = s

-- a comparison of two numbers
unfoldable pub number_compared : Comparison → ℕ → ℤ → ℕ → ℤ → Truth
number_compared comparison s a t b = compared comparison (Number s a) (Number t b)

-- a comparison of two dates
unfoldable pub dates_compared : Comparison → ℕ → ℕ → Truth
dates_compared comparison a b = compared comparison (Date a) (Date b)
