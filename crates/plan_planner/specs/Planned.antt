-- What it is for a flat plan to be that of a query.
use Rattle.std.specs.Prelude.{◌≡◌, [], Result, Ok, Err}
use Rattle.base_row_laws.specs.Bags.{SameBag}
use Rattle.base_schema.specs.State.{State, table_rows}
use Rattle.sql_bound_query.specs.declared.query.BoundQuery.{BoundQuery}
use Rattle.sql_bound_query.specs.Meaning.{rows}
use Rattle.plan_kept_queries.specs.Scans.{tables}
use Rattle.sql_bound_query.specs.Typing.{StateIsOf}
use Rattle.sql_binder_steps.specs.declared.fault.BindFault.{BindFault}
use Rattle.sql_binder_steps.specs.Steps.{Checked, Gives}
use Rattle.plan_algebra.specs.declared.plan.FlatPlan.{FlatPlan}
use Rattle.plan_algebra.specs.Plans.{result_rows, plan_scans}

-- The plan of a query: over tables of their kinds its rows are, as a bag, the query's rows by
-- nested loops; it has one scan for each table that stands in the query, and the query's order and
-- limit.
pub record IsPlanOf (q : BoundQuery) (plan : FlatPlan) : Type 0 where
  pub rows : (state : State) → StateIsOf state
      → SameBag (result_rows (table_rows state) plan.nodes) (rows q.block [] state)
  pub scans : SameBag (plan_scans plan.nodes) (tables q.block)
  pub order : plan.order ≡ q.order
  pub limit : plan.limit ≡ q.limit

-- What planning answers for a query that binding gives `said` for: refused exactly as binding is;
-- else a plan of the bound query, unless memory is refused.
abbrev pub Plans : Checked BoundQuery → Result FlatPlan BindFault → Type 0
Plans said (Ok plan) = (q : BoundQuery) × (said ≡ Ok q) × IsPlanOf q plan
Plans said (Err why) = Gives said (Err why)
