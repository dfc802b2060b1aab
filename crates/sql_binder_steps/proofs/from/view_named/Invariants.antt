use Rattle.std.proofs.Common.{◌≡◌, length}
use Rattle.sql_binder_steps.specs.Parts as spec
use Rattle.sql_binder_steps.proofs.from.view_named.Given as goal

abbrev pub invariant-views : goal.invariant-views
invariant-views l = spec.view_named l.name l.views ≡ spec.view_named l.name l.left

abbrev pub decreases-views : goal.decreases-views
decreases-views l = length l.left
