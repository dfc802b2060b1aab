-- What a plan reads of rows.
use Rattle.std.specs.Prelude.{ℕ, List, map}
use Rattle.base_row_laws.specs.Ranked.{Ranked}
use Rattle.base_value.specs.declared.value.Value.{Value}
use Rattle.base_columns.specs.Batches.{column_at}
use Rattle.plan_algebra.specs.declared.kept_plan.KeptAggregate.{KeptAggregate}
use Rattle.plan_algebra.specs.declared.kept_plan.KeptPlan.{KeptPlan}
use Rattle.plan_algebra.specs.KeptPlans.{item_of}

-- a plan, and rows
pub record PlanRows : Type 0 where
  pub plan : KeptPlan
  pub rows : List (Ranked Value)

abbrev pub plan_rows : KeptPlan → List (Ranked Value) → PlanRows
plan_rows plan rows = record { plan = plan; rows = rows }

-- the columns at these places of rows
abbrev pub key_columns : List ℕ → List (Ranked Value) → List (List Value)
key_columns places rows = map (λ c. column_at rows c) places

-- the arguments of aggregates in rows
abbrev pub argument_columns : List KeptAggregate → List (Ranked Value) → List (List Value)
argument_columns aggregates rows = map (λ a. map (λ y. (item_of a).0 y.values) rows) aggregates
