use Rattle.std.proofs.Common.{refl}
use Rattle.store_groups.proofs.laws.worked_cells.Goals as goal

pub returns : goal.returns
returns c = record { values = refl; more = refl; less = refl; null = refl }
