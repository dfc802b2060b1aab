use Rattle.std.proofs.Common.{refl}
use Rattle.store_kept_views.proofs.laws.worked_groups.Goals as goal

pub returns : goal.returns
returns c = λ e. (refl, refl, refl, refl, refl, refl)
