-- Values beside the numbers of a column.
use Rattle.std.specs.Prelude.{◌≡◌, ℕ, ℤ}
use Rattle.expr_operators.specs.Operators.{computed}
use Rattle.expr_operators.specs.declared.operator.Arithmetic.TheVariants.{Add, Subtract}
use Rattle.base_value.specs.declared.value.Value.{Value}
use Rattle.base_value.specs.declared.value.Value.TheVariants.{Number}

-- w gives the sums and differences of y with numbers of the scale s
pub record StandsFor (s : ℕ) (w y : Value) : Type 0 where
  pub sum : (a : ℤ) → computed Add (Number s a) w ≡ computed Add (Number s a) y
  pub sum_from : (a : ℤ) → computed Add w (Number s a) ≡ computed Add y (Number s a)
  pub difference : (a : ℤ) → computed Subtract (Number s a) w ≡ computed Subtract (Number s a) y
  pub difference_from : (a : ℤ) → computed Subtract w (Number s a)
      ≡ computed Subtract y (Number s a)
