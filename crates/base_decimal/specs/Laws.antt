-- What the definitions of decimals amount to.
use Rattle.std.specs.Prelude.{◌≡◌, ℕ, ◌+◌, ◌*◌, ◌≤◌, ◌<◌, true, ◌^◌, ℤ, pos, ◌-ℤ◌, ◌*ℤ◌, Ok, List}
use Rattle.std.specs.Prelude.{[], ◌∷◌, ◌++◌, unsigned_abs}
use Rattle.base_decimal.specs.Decimal.{fits, rescaled, nearest, nearest_of}
use Rattle.base_decimal.specs.Written.{decimal_read, decimal_written}
use Rattle.base_decimal.specs.Tally.{sums_of, with_term, without_term, HasTerm, joined, added}

-- what is written at a scale is read again at it
abbrev pub ReadsBack : Type 0
ReadsBack = (c : ℤ) (places : ℕ) → fits c ≡ true → places ≤ 18
    → decimal_read (decimal_written c places) places ≡ Ok c

-- a number rescaled has the same value: x / 10^t is c / 10^s
abbrev pub RescalingKeepsTheValue : Type 0
RescalingKeepsTheValue = (c x : ℤ) (s t : ℕ) → s ≤ t → rescaled c s t ≡ Ok x
    → x *ℤ pos (10 ^ s) ≡ c *ℤ pos (10 ^ t)

-- the rounded quotient q of two sizes m and n lies within half a unit of m / n: q - 1/2 ≤ m / n < q
-- + 1/2, so a half goes up
abbrev pub RoundsToNearest : Type 0
RoundsToNearest = (m n : ℕ) → 0 < n → (2 * nearest_of m n * n ≤ 2 * m + n)
    × (2 * m + n < 2 * nearest_of m n * n + 2 * n)

-- the quotient q of signed numbers x and y is the whole number nearest to x / y: q * y is within
-- half of y's size of x, and at just a half it is further from zero than x
abbrev pub QuotientIsNearest : Type 0
QuotientIsNearest = (x y : ℤ) → 0 < unsigned_abs y
    → let error = unsigned_abs (nearest x y *ℤ y -ℤ x) in
    (2 * error ≤ unsigned_abs y)
    × (2 * error ≡ unsigned_abs y → unsigned_abs x < unsigned_abs (nearest x y *ℤ y))

-- a term after a list of terms
abbrev pub PutIsOneTermMore : Type 0
PutIsOneTermMore = (terms : List ℤ) (term : ℤ) → sums_of (terms ++ term ∷ [])
    ≡ with_term (sums_of terms) term

-- a term of a list is held by the list's sums, and without it they are those of the others
abbrev pub RemoveIsOneTermLess : Type 0
RemoveIsOneTermLess = (terms more : List ℤ) (term : ℤ)
    → HasTerm (sums_of (terms ++ term ∷ more)) term
    × (without_term (sums_of (terms ++ term ∷ more)) term ≡ sums_of (terms ++ more))

-- two lists of terms, one after the other
abbrev pub MergeIsBothLists : Type 0
MergeIsBothLists = (terms more : List ℤ) → sums_of (terms ++ more)
    ≡ joined (sums_of terms) (sums_of more)

-- a total that is in range is the sum of the terms
abbrev pub TotalIsTheSum : Type 0
TotalIsTheSum = (terms : List ℤ) → pos (sums_of terms).above -ℤ pos (sums_of terms).below
    ≡ added terms
