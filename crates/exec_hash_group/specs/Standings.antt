-- The standings of groups, as ranks.
use Rattle.std.specs.Prelude.{◌≡◌, ℕ, ◌<◌, List, map, length, slice_index}
use Rattle.base_row_laws.specs.Ranked.{Ranked, true_rank}
use Rattle.base_row_laws.specs.Bags.{top, bottom}
use Rattle.base_row_laws.specs.TableLaws.{with_number}
use Rattle.base_value.specs.declared.truth.Standing.{Standing}
use Rattle.base_value.specs.declared.value.Value.{Value}
use Rattle.base_value.specs.Truth.{standing_rank}

-- the ranks of standings
abbrev pub ranks : List Standing → List ℕ
ranks standings = map standing_rank standings

-- the ranks of rows' standings
abbrev pub row_ranks : List (Ranked Value) → List ℕ
row_ranks rows = map (λ r. r.standing) rows

-- the least of the ranks at which a number stands, True's where it stands nowhere
abbrev pub least_of : List ℕ → List ℕ → ℕ → ℕ
least_of numbers all n = bottom true_rank (λ s. s) (with_number numbers all n)

-- the greatest of the ranks at which a number stands, 0 where it stands nowhere
abbrev pub greatest_of : List ℕ → List ℕ → ℕ → ℕ
greatest_of numbers all n = top (λ s. s) (with_number numbers all n)

-- for each of `count` numbers f of it
pub record AreOfNumbers (f : ℕ → ℕ) (count : ℕ) (results : List ℕ) : Type 0 where
  pub long : length results ≡ count
  pub each : (n : ℕ) → n < count → slice_index results n ≡ f n

-- a place for each number, at which that number stands
pub record AreFirsts (numbers firsts : List ℕ) : Type 0 where
  pub within : (n : ℕ) → n < length firsts → slice_index firsts n < length numbers
  pub stands : (n : ℕ) → n < length firsts → slice_index numbers (slice_index firsts n) ≡ n
