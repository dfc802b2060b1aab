use Rattle.std.proofs.Common.{◌≡◌, map, length}
use Rattle.base_row_laws.specs.Bags.{Each}
use Rattle.sql_binder_steps.specs.Names.{sight_of}
use Rattle.sql_binder.specs.Nests.{BindsItem}
use Rattle.sql_binder.specs.Clauses as spec
use Rattle.sql_binder.specs.Binding.{item_meaning}
use Rattle.sql_binder.proofs.exprs.ExprBinder.shown_items.Given as goal

abbrev pub invariant-items : goal.invariant-items
invariant-items g l = record {
  parts : Each (BindsItem (goal.E-pre g l.self.expr) (goal.E-post g l.self.expr)) l.left;
  same : spec.shown_items (sight_of l.site) (map item_meaning l.items) l.fn.state
      ≡ spec.items_from (sight_of l.site) l.done (map item_meaning l.left) l.state;
}

abbrev pub decreases-items : goal.decreases-items
decreases-items g l = length l.left
