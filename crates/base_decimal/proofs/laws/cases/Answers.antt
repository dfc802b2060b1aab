use Rattle.std.proofs.Common.{ℕ, List, [], ◌∷◌, ◌++◌, refl, ap, arith}
use Rattle.std.proofs.lemmas.Fmt.{decimal_digit}
use Rattle.base_decimal.specs.Decimal.{rescaled, sum_of, quotient_of}
use Rattle.base_decimal.proofs.laws.cases.Goals as goal

pub returns-clause-thirds : goal.returns-clause-thirds
unfolding quotient_of
returns-clause-thirds c = (refl, refl)

pub returns-clause-zero : goal.returns-clause-zero
unfolding quotient_of
returns-clause-zero c = (refl, refl)

pub returns-clause-past : goal.returns-clause-past
unfolding sum_of rescaled
returns-clause-past c = refl

pub returns-clause-scales : goal.returns-clause-scales
returns-clause-scales c = (refl, refl)

pub returns-clause-sums : goal.returns-clause-sums
returns-clause-sums c = (refl, refl)

pub returns-clause-average : goal.returns-clause-average
unfolding rescaled
returns-clause-average c = refl

pub returns-clause-spelled : goal.returns-clause-spelled
returns-clause-spelled c = (refl, ap (λ (whole : List ℕ). 45 ∷ (whole ++ 46 ∷ 53 ∷ 48 ∷ [])) (decimal_digit 0 (omega arith)), refl, refl)
