-- Groups worked out by hand.
use Rattle.std.specs.Prelude.{◌≡◌, ℕ, [], ◌∷◌, pos, negsuc}
use Rattle.base_decimal.specs.Tally.{sums}
use Rattle.base_row_laws.specs.Ranked.{true_rank}
use Rattle.base_value.specs.declared.truth.Fault.TheVariants.{DivideByZero}
use Rattle.base_value.specs.declared.value.Value.{Value}
use Rattle.base_value.specs.declared.value.Value.TheVariants.{Null, Number, Fault as Failed}
use Rattle.store_groups.specs.Groups.{Cell, cell, cell_of, with_value, without_value}

-- an amount in hundredths
abbrev pub amount : ℕ → Value
amount n = Number 2 (pos n)

-- of 20.00, null and -5.00
abbrev pub three : Cell
three = cell_of (amount 2000 ∷ Null ∷ Number 2 (negsuc 499) ∷ [])

-- with a fault among them
abbrev pub faulty : Cell
faulty = with_value three (Failed DivideByZero)

-- what is kept of values, with one more, and without one again
pub record CellCases : Type 0 where
  pub values : three ≡ cell true_rank (sums 2 2000 500)
  pub more : with_value three (amount 100) ≡ cell true_rank (sums 3 2100 500)
  pub less : without_value (with_value three (amount 100)) (amount 100) ≡ three
  pub null : without_value three Null ≡ three
