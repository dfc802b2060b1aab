use Rattle.std.proofs.Common.{refl}
use Rattle.base_row_laws.proofs.small_cases.standings_of_joins.Goals as goal

pub returns : goal.returns
returns c = (refl, refl, refl)
