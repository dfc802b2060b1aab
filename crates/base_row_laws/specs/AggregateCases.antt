-- Small cases of the aggregates, over amounts that are null, a whole number or a fault.
use Rattle.std.specs.Prelude.{◌≡◌, ℕ, ◌+◌, ◌-◌, ◌^◌, ◌==◌, ◌/◌, [], ◌∷◌, Bool, true, false, cond}
use Rattle.std.specs.Prelude.{◌&&◌, nat_le}
use Rattle.base_row_laws.specs.Ranked.{unknown_rank, divide_by_zero_rank, number_range_rank, true_rank}
use Rattle.base_row_laws.specs.Aggregates.{Reading, count_rows, count_of, count_distinct_of, sum_of}
use Rattle.base_row_laws.specs.Aggregates.{avg_of, min_of, max_of}

-- an amount: null, the number `up` - `down`, or the fault of a rank
pub data Amount : Type 0 where
  Missing : Amount
  Units : (up down : ℕ) → Amount
  Failed : (rank : ℕ) → Amount

-- identity of amounts as they are written
abbrev pub same_amount : Amount → Amount → Bool
same_amount Missing Missing = true
same_amount Missing (Units c d) = false
same_amount Missing (Failed g) = false
same_amount (Units a b) Missing = false
same_amount (Units a b) (Units c d) = a == c && b == d
same_amount (Units a b) (Failed g) = false
same_amount (Failed f) Missing = false
same_amount (Failed f) (Units c d) = false
same_amount (Failed f) (Failed g) = f == g

-- whether the amount is null
abbrev pub is_missing : Amount → Bool
is_missing Missing = true
is_missing (Units a b) = false
is_missing (Failed f) = false

-- a fault's rank, and True's for an amount that is none
abbrev pub amount_rank : Amount → ℕ
amount_rank Missing = true_rank
amount_rank (Units a b) = true_rank
amount_rank (Failed f) = f

-- how far the amount lies above 0
abbrev pub above_zero : Amount → ℕ
above_zero Missing = 0
above_zero (Units a b) = a - b
above_zero (Failed f) = 0

-- how far the amount lies below 0
abbrev pub below_zero : Amount → ℕ
below_zero Missing = 0
below_zero (Units a b) = b - a
below_zero (Failed f) = 0

-- null for Unknown, a fault for its rank
abbrev pub amount_of_rank : ℕ → Amount
amount_of_rank r = cond (r == unknown_rank) Missing (Failed r)

-- what aggregates read of an amount
abbrev pub amounts : Reading Amount
amounts = record {
  is_null = is_missing;
  fault_rank = amount_rank;
  above = above_zero;
  below = below_zero;
  write = amount_of_rank;
  number = Units;
}

-- the order of numbers: x - y is at most 0
abbrev pub at_most : Amount → Amount → Bool
at_most x y = nat_le (above_zero x + below_zero y) (above_zero y + below_zero x)

-- the number a above 0
abbrev pub plus : ℕ → Amount
plus a = Units a 0

-- the number a below 0
abbrev pub minus : ℕ → Amount
minus a = Units 0 a

-- the largest number
abbrev pub largest : ℕ
largest = 2 ^ 127 - 1

-- (a - b) / n, cut towards 0
abbrev pub quotient : ℕ → ℕ → ℕ → Amount
quotient a b n = Units ((a - b) / n) ((b - a) / n)

-- sum(e) is exact up to the largest number, above 0 and below 0.
-- It is NumberRange where the terms above 0 pass that, or the others negated,
-- also where the sum of them all does not.
abbrev pub SumAtItsEdges : Type 0
SumAtItsEdges = (sum_of amounts (plus largest ∷ minus 1 ∷ Missing ∷ []) ≡ plus (largest - 1))
    × (sum_of amounts (plus largest ∷ []) ≡ plus largest)
    × (sum_of amounts (minus largest ∷ []) ≡ minus largest)
    × (sum_of amounts (plus largest ∷ plus 1 ∷ minus 1 ∷ []) ≡ Failed number_range_rank)
    × (sum_of amounts (minus largest ∷ minus 1 ∷ plus 1 ∷ []) ≡ Failed number_range_rank)
    × (sum_of amounts (plus 2 ∷ minus 5 ∷ []) ≡ minus 3)

-- avg(e) of 9, -3, null and 0 is 2: the null is no term, the 0 is one. Its range is judged as that
-- of the sum.
abbrev pub AverageOfTerms : Type 0
AverageOfTerms = (avg_of amounts quotient (plus 9 ∷ minus 3 ∷ Missing ∷ plus 0 ∷ []) ≡ plus 2)
    × (avg_of amounts quotient (plus 3 ∷ minus 9 ∷ Missing ∷ plus 0 ∷ []) ≡ minus 2)
    × (avg_of amounts quotient (plus largest ∷ plus 1 ∷ minus 1 ∷ []) ≡ Failed number_range_rank)

-- Where faults are among the values each aggregate is the least of them; count(*) alone counts the
-- rows.
abbrev pub LeastFaultOfTwo : Type 0
LeastFaultOfTwo =
    let vs = Missing ∷ Failed number_range_rank ∷ Failed divide_by_zero_rank ∷ plus 1 ∷ [] in
    (sum_of amounts vs ≡ Failed divide_by_zero_rank)
    × (avg_of amounts quotient vs ≡ Failed divide_by_zero_rank)
    × (count_of amounts vs ≡ Failed divide_by_zero_rank)
    × (count_distinct_of amounts same_amount vs ≡ Failed divide_by_zero_rank)
    × (min_of amounts at_most vs ≡ Failed divide_by_zero_rank)
    × (max_of amounts at_most vs ≡ Failed divide_by_zero_rank)
    × (count_rows amounts vs ≡ plus 4)

-- Over nothing but nulls, as over no rows, counts of values are 0 and the other aggregates null;
-- count(*) counts the rows.
abbrev pub AggregatesOfNulls : Type 0
AggregatesOfNulls =
    (sum_of amounts (Missing ∷ Missing ∷ []) ≡ Missing) × (sum_of amounts [] ≡ Missing)
    × (avg_of amounts quotient (Missing ∷ Missing ∷ []) ≡ Missing)
    × (avg_of amounts quotient [] ≡ Missing)
    × (min_of amounts at_most (Missing ∷ Missing ∷ []) ≡ Missing)
    × (min_of amounts at_most [] ≡ Missing)
    × (max_of amounts at_most (Missing ∷ Missing ∷ []) ≡ Missing)
    × (max_of amounts at_most [] ≡ Missing)
    × (count_of amounts (Missing ∷ Missing ∷ []) ≡ plus 0) × (count_of amounts [] ≡ plus 0)
    × (count_distinct_of amounts same_amount (Missing ∷ Missing ∷ []) ≡ plus 0)
    × (count_distinct_of amounts same_amount [] ≡ plus 0)
    × (count_rows amounts (Missing ∷ Missing ∷ []) ≡ plus 2) × (count_rows amounts [] ≡ plus 0)

-- Of 1, null, 1 and 2 count(e) is 3, count(distinct e) 2 and count(*) 4.
abbrev pub CountsOfDuplicates : Type 0
CountsOfDuplicates =
    let vs = plus 1 ∷ Missing ∷ plus 1 ∷ plus 2 ∷ [] in
    (count_of amounts vs ≡ plus 3) × (count_distinct_of amounts same_amount vs ≡ plus 2)
    × (count_rows amounts vs ≡ plus 4)

-- Of 5, null, -2, 9 and 2 the least is -2 and the greatest 9.
abbrev pub ExtremesOfAmounts : Type 0
ExtremesOfAmounts =
    let vs = plus 5 ∷ Missing ∷ minus 2 ∷ plus 9 ∷ plus 2 ∷ [] in
    (min_of amounts at_most vs ≡ minus 2) × (max_of amounts at_most vs ≡ plus 9)
