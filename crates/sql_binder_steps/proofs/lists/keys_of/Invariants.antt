use Rattle.std.proofs.Common.{◌≡◌, length}
use Rattle.sql_binder_steps.specs.Parts as spec
use Rattle.sql_binder_steps.proofs.lists.keys_of.Given as goal

abbrev pub invariant-group : goal.invariant-group
invariant-group l = spec.keys_of l.columns l.group ≡ spec.keys_from l.columns l.done l.left

abbrev pub decreases-group : goal.decreases-group
decreases-group l = length l.left
