-- What accumulators have of the values that they took.
use Rattle.std.specs.Prelude.{◌≡◌, ℕ, ◌-◌, ◌^◌, ◌==◌, min, List, [], ◌∷◌, length, Bool, cond}
use Rattle.base_row_laws.specs.Bags.{weigh, each_once}
use Rattle.base_row_laws.specs.Aggregates.{not_null, least_fault, first_of}
use Rattle.base_key_tables.specs.Distinct.{added}
use Rattle.base_value.specs.declared.value.Value.{Value}
use Rattle.base_value.specs.Value.{same_value}
use Rattle.expr_aggregates.specs.Values.{written, reading, above, below, is_before}

-- a function of a list of values, as an aggregate is
abbrev pub OfValues : Type 0
OfValues = List Value → Value

-- two functions of a list give the same
abbrev pub GiveTheSame : OfValues → OfValues → Type 0
GiveTheSame a b = (vs : List Value) → a vs ≡ b vs

-- the values that aren't null
abbrev pub present : List Value → List Value
present vs = not_null (reading 0) vs

-- the rank of the least fault among the values
abbrev pub least_fault_rank : List Value → ℕ
least_fault_rank vs = least_fault (reading 0) vs

-- how many rows there were
pub record CountedRows (n : ℕ) (vs : List Value) : Type 0 where
  pub rows : n ≡ length vs

-- the rank of the least fault among the values, and how many of them aren't null
pub record Counted (rank n : ℕ) (vs : List Value) : Type 0 where
  pub least : rank ≡ least_fault_rank vs
  pub terms : n ≡ length (present vs)

-- a sum, or 2^128 - 1 where it is more
abbrev pub capped : ℕ → ℕ
capped n = min n (2 ^ 128 - 1)

-- the same with the sums of the numbers at or above 0, and of the others negated, both capped
pub record Summed (rank n up down : ℕ) (vs : List Value) : Type 0 where
  pub least : rank ≡ least_fault_rank vs
  pub terms : n ≡ length (present vs)
  pub above_is : up ≡ capped (weigh above vs)
  pub below_is : down ≡ capped (weigh below vs)

-- null of no terms, else a number
abbrev pub unless_empty : ℕ → Value → Value
unless_empty terms v = cond (terms == 0) (written 1) v

-- the order in which the first is the least value, or the greatest
abbrev pub extreme_order : Bool → Value → Value → Bool
extreme_order is_greatest x y = cond is_greatest (is_before y x) (is_before x y)

-- the first of the values that aren't null, null where there is none
abbrev pub first_value : Bool → List Value → Value
first_value is_greatest vs = first_of (extreme_order is_greatest) (written 1) vs

-- the rank of the least fault, and the first of the values that aren't null
pub record Compared (rank : ℕ) (is_greatest : Bool) (value : Value) (vs : List Value) : Type 0 where
  pub least : rank ≡ least_fault_rank vs
  pub best : value ≡ first_value is_greatest (present vs)

-- the list with each of the others after it that doesn't stand there yet
abbrev pub added_all : {X : Type 0} → (X → X → Bool) → List X → List X → List X
added_all same ds [] = ds
added_all same ds (x ∷ xs) = added_all same (added same ds x) xs

-- the rank of the least fault among the values, and those that aren't null, identical ones once
pub record CountedDistinct (rank : ℕ) (distinct vs : List Value) : Type 0 where
  pub least : rank ≡ least_fault_rank vs
  pub seen : distinct ≡ each_once same_value (present vs)
