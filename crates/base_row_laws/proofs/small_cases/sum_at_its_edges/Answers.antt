use Rattle.std.proofs.Common.{refl}
use Rattle.base_row_laws.proofs.small_cases.sum_at_its_edges.Goals as goal

pub returns : goal.returns
returns c = (refl, refl, refl, refl, refl, refl)
