use Rattle.std.proofs.Common.{◌≡◌, ◌++◌, length}
use Rattle.sql_binder_steps.specs.Values as spec
use Rattle.sql_binder_steps.proofs.values.branches.Given as goal

abbrev pub invariant-arms : goal.invariant-arms
invariant-arms l = spec.branches l.fn.whens l.fn.gives ≡ l.all ++ spec.branches l.whens l.gives

abbrev pub decreases-arms : goal.decreases-arms
decreases-arms l = length l.whens
