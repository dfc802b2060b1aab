use Rattle.std.proofs.Common.{◌≡◌, map, length}
use Rattle.sql_binder.specs.Blocks as spec
use Rattle.sql_binder.specs.Binding.{item_meaning}
use Rattle.sql_binder.proofs.syntax.any_in_items.Given as goal

abbrev pub invariant-all : goal.invariant-all
invariant-all l = spec.any_in_items (map item_meaning l.fn.all)
    ≡ spec.any_in_items (map item_meaning l.all)

abbrev pub decreases-all : goal.decreases-all
decreases-all l = length l.all
