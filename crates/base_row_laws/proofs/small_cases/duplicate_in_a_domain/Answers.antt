use Rattle.std.proofs.Common.{◌≡◌, refl, arith}
use Rattle.base_row_laws.proofs.small_cases.duplicate_in_a_domain.Goals as goal

pub returns : goal.returns
returns c = (refl, refl, λ e. let a : 4 ≡ 6 = e.weighs (λ z. 1) in absurd (omega arith))
