use Rattle.std.proofs.Common.{refl}
use Rattle.base_row_laws.proofs.small_cases.keys_of_faults.Goals as goal

pub returns : goal.returns
returns c = (refl, refl, refl)
