use Rattle.std.proofs.Common.{refl}
use Rattle.base_row_laws.proofs.small_cases.mark_of_faults_and_nulls.Goals as goal

pub returns : goal.returns
returns c = (refl, refl)
