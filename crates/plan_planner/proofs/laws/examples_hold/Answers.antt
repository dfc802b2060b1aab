use Rattle.std.proofs.Common.{refl}
use Rattle.std.specs.Fmt.{digits}
use Rattle.plan_planner.proofs.laws.examples_hold.Goals as goal

pub returns : goal.returns
unfolding digits
returns c = record { kept = refl; scan = refl; inputs = refl; sets = refl }
