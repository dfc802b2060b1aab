use Rattle.std.proofs.Common.{◌≡◌, refl, arith}
use Rattle.base_row_laws.proofs.small_cases.null_binding.Goals as goal

pub returns : goal.returns
returns c = (refl, refl, λ e. let a : 1 ≡ 0 = e.weighs (λ z. 1) in absurd (omega arith))
