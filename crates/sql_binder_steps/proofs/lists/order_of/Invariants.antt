use Rattle.std.proofs.Common.{◌≡◌, length}
use Rattle.sql_binder_steps.specs.Parts as spec
use Rattle.sql_binder_steps.proofs.lists.order_of.Given as goal

abbrev pub invariant-order : goal.invariant-order
invariant-order l = spec.order_of l.headers l.order ≡ spec.order_from l.headers l.done l.left

abbrev pub decreases-order : goal.decreases-order
decreases-order l = length l.left
