use Rattle.std.proofs.Common.{◌≡◌, map, length}
use Rattle.base_row_laws.specs.Bags.{Each}
use Rattle.sql_binder_steps.specs.Names.{sight_of}
use Rattle.sql_binder.specs.Nests.{BindsJoined}
use Rattle.sql_binder.specs.FromLists as spec
use Rattle.sql_binder.specs.Binding.{joined_meaning}
use Rattle.sql_binder.proofs.subqueries.QueryBinder.from_list.Given as goal

abbrev pub invariant-from : goal.invariant-from
invariant-from g l = record {
  parts : Each (BindsJoined (goal.E-pre g l.self.exprs.expr) (goal.E-post g l.self.exprs.expr)
      (goal.Q-pre g l.self.query) (goal.Q-post g l.self.query)) l.left;
  same : spec.from_list (sight_of l.site) (map joined_meaning l.all) l.fn.state
      ≡ spec.from_list_after (sight_of l.site) l.done (map joined_meaning l.left) l.state;
}

abbrev pub decreases-from : goal.decreases-from
decreases-from g l = length l.left
