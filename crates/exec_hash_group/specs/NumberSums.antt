-- Sums of numbers, group by group.
use Rattle.std.specs.Prelude.{◌≡◌, ℕ, ◌<◌, ◌≤◌, ◌*◌, ◌^◌, ◌==◌, List, length, pos, ◌-ℤ◌, cond}
use Rattle.std.specs.Prelude.{slice_index_or}
use Rattle.base_row_laws.specs.Ranked.{true_rank}
use Rattle.base_row_laws.specs.TableLaws.{with_number}
use Rattle.base_value.specs.declared.value.Value.{Value}
use Rattle.base_value.specs.declared.value.Value.TheVariants.{Null, Number}
use Rattle.exec_accumulators.specs.Accumulators.{Summed}

-- The values are numbers of 64 bits: how many, the sum of those at or above 0, and of the others
-- negated.
pub record NumbersSummed (terms up down : ℕ) (values : List Value) : Type 0 where
  pub summed : Summed true_rank terms up down values
  pub above_small : up ≤ terms * 2 ^ 63
  pub below_small : down ≤ terms * 2 ^ 63

-- the same of each of `count` groups
pub record AreSums (numbers : List ℕ) (values : List Value) (count : ℕ) (terms ups downs : List ℕ)
    : Type 0 where
  pub terms_long : length terms ≡ count
  pub above_long : length ups ≡ count
  pub below_long : length downs ≡ count
  pub few : (n : ℕ) → n < count → slice_index_or terms n 0 ≤ length numbers
  pub each : (n : ℕ) → n < count
      → NumbersSummed (slice_index_or terms n 0) (slice_index_or ups n 0) (slice_index_or downs n 0)
      (with_number numbers values n)

-- null of no terms, else the sum as a number of the scale
abbrev pub sum_value : ℕ → ℕ → ℕ → ℕ → Value
sum_value scale terms up down = cond (terms == 0) Null (Number scale (pos up -ℤ pos down))
