use Rattle.std.proofs.Common.{refl}
use Rattle.base_row_laws.proofs.small_cases.not_in_with_a_null.Goals as goal

pub returns : goal.returns
returns c = (refl, refl, refl, refl)
