use Rattle.std.proofs.Common.{refl}
use Rattle.base_row_laws.proofs.small_cases.fault_in_a_domain.Goals as goal

pub returns : goal.returns
returns c = (λ bag. refl, λ bag. refl)
