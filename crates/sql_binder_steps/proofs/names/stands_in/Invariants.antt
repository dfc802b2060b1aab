use Rattle.std.proofs.Common.{◌≡◌, length}
use Rattle.sql_binder_steps.specs.Parts as spec
use Rattle.sql_binder_steps.proofs.names.stands_in.Given as goal

abbrev pub invariant-names : goal.invariant-names
invariant-names l = spec.stands_in l.name l.fn.names ≡ spec.stands_in l.name l.names

abbrev pub decreases-names : goal.decreases-names
decreases-names l = length l.names
