use Rattle.std.proofs.Common.{◌≡◌, length}
use Rattle.sql_binder_steps.specs.Parts as spec
use Rattle.sql_binder_steps.proofs.steps.any_outer.Given as goal

abbrev pub invariant-all : goal.invariant-all
invariant-all l = spec.any_outer l.fn.all ≡ spec.any_outer l.all

abbrev pub decreases-all : goal.decreases-all
decreases-all l = length l.all
