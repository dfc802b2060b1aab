-- Numbers that are plainly spelled.
use Rattle.std.specs.Prelude.{◌≡◌, ℤ, pos, false, true, int_lt}
use Rattle.base_schema.specs.Kinds.{is_narrow}

-- a number of 63 bits that isn't below 0, which each column of numbers holds
pub record IsNatural (number : ℤ) : Type 0 where
  pub sign : int_lt number (pos 0) ≡ false
  pub narrow : is_narrow number ≡ true
