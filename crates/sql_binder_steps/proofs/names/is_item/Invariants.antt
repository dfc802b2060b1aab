use Rattle.std.proofs.Common.{◌≡◌, length}
use Rattle.sql_binder_steps.specs.Parts as spec
use Rattle.sql_binder_steps.proofs.names.is_item.Given as goal

abbrev pub invariant-left : goal.invariant-left
invariant-left l = spec.is_item l.fn.left l.alias ≡ spec.is_item l.left l.alias

abbrev pub decreases-left : goal.decreases-left
decreases-left l = length l.left
