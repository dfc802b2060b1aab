-- The rows of a kept plan, computed in steps.
use Rattle.std.proofs.Common.{◌≡◌, ◌∙◌, ℕ, List, map, ap}
use Rattle.base_row_laws.specs.Operators.{project, select}
use Rattle.base_row_laws.specs.Ranked.{Ranked}
use Rattle.base_row_laws.specs.Rows.{scanned}
use Rattle.base_value.specs.declared.value.Value.{Value}
use Rattle.expr_conditions.specs.Ranks.{rank_of}
use Rattle.expr_scalar.specs.Meaning.{values}
use Rattle.expr_scalar.specs.declared.expr.Expr.{Expr}
use Rattle.expr_scalar.specs.declared.expr.Expr.TheVariants.{Column}
use Rattle.plan_algebra.specs.KeptPlans.{plain_aggregate, query_rows}
use Rattle.plan_algebra.specs.Plans.{groups}
use Rattle.plan_algebra.specs.declared.aggregate.Aggregate.{Aggregate}
use Rattle.plan_algebra.specs.declared.kept_plan.KeptPlan.{KeptPlan}
use Rattle.plan_algebra.proofs.KeptPlans.{query_staged}

-- the scan, its rows that meet the condition, their groups, and what is shown of these
pub rows_in_steps : (plan : KeptPlan) (rows : List (List Value))
    (scan kept group bag : List (Ranked Value)) (condition : Expr) (by : List ℕ)
    (aggregates : List Aggregate) (columns : List Expr)
    → scan ≡ scanned rows → condition ≡ plan.condition → kept ≡ select (rank_of condition) scan
    → by ≡ plan.by → aggregates ≡ map plain_aggregate plan.aggregates
    → group ≡ groups by aggregates kept → columns ≡ map Column plan.list
    → bag ≡ project (values columns) group → bag ≡ query_rows plan rows
rows_in_steps plan rows scan kept group bag condition by aggregates columns scan_is condition_is
    kept_is by_is aggregates_is group_is columns_is bag_is =
    bag_is
    ∙ ap (λ g. project (values columns) g) group_is
    ∙ ap (λ cs. project (values cs) (groups by aggregates kept)) columns_is
    ∙ ap (λ b. project (values (map Column plan.list)) (groups b aggregates kept)) by_is
    ∙ ap (λ a. project (values (map Column plan.list)) (groups plan.by a kept)) aggregates_is
    ∙ ap (λ k. project (values (map Column plan.list))
    (groups plan.by (map plain_aggregate plan.aggregates) k))
    (kept_is ∙ ap (λ s. select (rank_of condition) s) scan_is
    ∙ ap (λ e. select (rank_of e) (scanned rows)) condition_is)
    ∙ query_staged plan rows
