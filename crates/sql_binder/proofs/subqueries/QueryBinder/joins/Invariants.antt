use Rattle.std.proofs.Common.{◌≡◌, map, length}
use Rattle.base_row_laws.specs.Bags.{Each}
use Rattle.sql_binder_steps.specs.Names.{sight_of}
use Rattle.sql_binder.specs.Nests.{BindsJoin}
use Rattle.sql_binder.specs.FromLists as spec
use Rattle.sql_binder.specs.Binding.{join_meaning}
use Rattle.sql_binder.proofs.subqueries.QueryBinder.joins.Given as goal

abbrev pub invariant-joins : goal.invariant-joins
invariant-joins g l = record {
  parts : Each (BindsJoin (goal.E-pre g l.self.exprs.expr) (goal.E-post g l.self.exprs.expr)
      (goal.Q-pre g l.self.query) (goal.Q-post g l.self.query)) l.left;
  same : spec.joins l.start (sight_of l.site) l.fn.first (map join_meaning l.rest) l.fn.state
      ≡ spec.joins_from l.start (sight_of l.site) l.done (map join_meaning l.left) l.state;
}

abbrev pub decreases-joins : goal.decreases-joins
decreases-joins g l = length l.left
