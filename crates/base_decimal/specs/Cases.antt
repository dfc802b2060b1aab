-- Small cases, computed.
use Rattle.std.specs.Prelude.{◌≡◌, ℕ, ◌-◌, ◌^◌, pos, negsuc, Ok, Err, [], ◌∷◌, codes}
use Rattle.std.specs.declared.cmp.Ordering.TheVariants.{Equal, Less}
use Rattle.base_decimal.specs.declared.arithmetic.NumberFault.TheVariants.{NumberRange}
use Rattle.base_decimal.specs.declared.arithmetic.NumberFault.TheVariants.{DivideByZero}
use Rattle.base_decimal.specs.declared.read.Spelling.TheVariants.{NotANumber, TooWide}
use Rattle.base_decimal.specs.Decimal.{quotient_of, sum_of, decimal_cmp}
use Rattle.base_decimal.specs.Tally.{sums_of, total_of, average_of}
use Rattle.base_decimal.specs.Written.{decimal_read, decimal_written}

-- the largest coefficient
abbrev pub most : ℕ
most = 2 ^ 127 - 1

-- two thirds are 0.666667, with a minus too
abbrev pub Thirds : Type 0
Thirds = (quotient_of (pos 2) 0 (pos 3) 0 ≡ Ok (pos 666667))
    × (quotient_of (negsuc 1) 0 (pos 3) 0 ≡ Ok (negsuc 666666))

-- a zero divisor comes before a dividend out of range
abbrev pub ZeroDivisor : Type 0
ZeroDivisor = (quotient_of (pos most) 0 (pos 0) 0 ≡ Err DivideByZero)
    × (quotient_of (pos most) 0 (pos 1) 0 ≡ Err NumberRange)

-- one and the largest coefficient have no sum
abbrev pub SumPastTheEnd : Type 0
SumPastTheEnd = sum_of (pos most) 0 (pos 1) 0 ≡ Err NumberRange

-- 1 is 1.00, and 0.99 is less
abbrev pub AcrossScales : Type 0
AcrossScales = (decimal_cmp (pos 1) 0 (pos 100) 2 ≡ Equal)
    × (decimal_cmp (pos 99) 2 (pos 1) 0 ≡ Less)

-- the terms of each sign count by themselves: the largest and -1 have a sum, the largest, 1 and -1
-- have none
abbrev pub SumsAtTheEnd : Type 0
SumsAtTheEnd = (total_of (sums_of (pos most ∷ negsuc 0 ∷ [])) ≡ Ok (pos (most - 1)))
    × (total_of (sums_of (pos most ∷ pos 1 ∷ negsuc 0 ∷ [])) ≡ Err NumberRange)

-- the average of 1.00, 1.00 and 2.00 is 1.333333
abbrev pub AverageOfThree : Type 0
AverageOfThree = average_of (sums_of (pos 100 ∷ pos 100 ∷ pos 200 ∷ [])) 2 ≡ Ok (pos 1333333)

-- -0.5 is read at scale 2 and written as -0.50; two points are no number; a wide number is told
-- after its spelling
abbrev pub Spelled : Type 0
Spelled = (decimal_read (codes "-0.5") 2 ≡ Ok (negsuc 49))
    × (decimal_written (negsuc 49) 2 ≡ codes "-0.50")
    × (decimal_read (codes "1.2.3") 2 ≡ Err NotANumber)
    × (decimal_read (codes "170141183460469231731687303715884105728") 0 ≡ Err TooWide)
