use Rattle.std.proofs.Common.{◌≡◌, length}
use Rattle.sql_binder_steps.specs.Parts as spec
use Rattle.sql_binder_steps.proofs.names.has_twice.Given as goal

abbrev pub invariant-names : goal.invariant-names
invariant-names l = spec.has_twice l.fn.names ≡ spec.has_twice l.names

abbrev pub decreases-names : goal.decreases-names
decreases-names l = length l.names
