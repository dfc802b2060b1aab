use Rattle.std.proofs.Common.{◌≡◌, refl, arith}
use Rattle.base_row_laws.proofs.small_cases.count_of_no_rows.Goals as goal

pub returns : goal.returns
returns c = (refl, λ bag. refl, λ bag. refl, λ e. let a : 4 ≡ 2 = e.weighs (λ z. 1) in absurd (omega arith))
