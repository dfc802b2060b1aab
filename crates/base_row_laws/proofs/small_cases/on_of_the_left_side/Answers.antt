use Rattle.std.proofs.Common.{◌≡◌, refl, arith}
use Rattle.base_row_laws.proofs.small_cases.on_of_the_left_side.Goals as goal

pub returns : goal.returns
returns c = (refl, λ e. let a : 2 ≡ 1 = e.weighs (λ z. 1) in absurd (omega arith))
