-- The worked kept plans, computed; and the standings of a kept plan's rows.
use Rattle.std.proofs.Common.{◌≡◌, ◌∙◌, ℕ, List, [], ◌∷◌, map, ap, refl, arith}
use Rattle.std.proofs.Math.Path.{fun_ext}
use Rattle.std.specs.Prelude.{slice_index_or}
use Rattle.base_row_laws.specs.Aggregates.{aggregated}
use Rattle.base_row_laws.specs.Bags.{Each}
use Rattle.base_row_laws.specs.Operators.{group_by, project, select, total}
use Rattle.base_row_laws.specs.Ranked.{Ranked, ranked, true_rank}
use Rattle.base_row_laws.specs.Rows.{columns, scanned}
use Rattle.base_row_laws.specs.StandingLaws.{Stands}
use Rattle.base_row_laws.proofs.Lists.{Each-map, Each-all}
use Rattle.base_row_laws.proofs.Standings as stands
use Rattle.base_value.specs.declared.value.Value.{Value}
use Rattle.base_value.specs.declared.value.Value.TheVariants.{Null}
use Rattle.base_value.specs.Value.{same_value}
use Rattle.expr_scalar.specs.Meaning.{values, truths}
use Rattle.expr_conditions.specs.Ranks.{rank_of}
use Rattle.expr_scalar.proofs.Opened.{value_Column, values_opened, truths_opened}
use Rattle.expr_scalar.specs.declared.expr.Expr.TheVariants.{Column}
use Rattle.plan_algebra.specs.Aggregates.{aggregates_of, argument_and_function}
use Rattle.plan_algebra.specs.declared.kept_plan.KeptAggregate.{KeptAggregate}
use Rattle.plan_algebra.specs.declared.kept_plan.KeptAggregate.TheVariants as kept
use Rattle.plan_algebra.specs.Plans.{groups}
use Rattle.plan_algebra.specs.declared.kept_plan.KeptPlan.{KeptPlan}
use Rattle.plan_algebra.specs.KeptPlans.{KeptCases, holds_for, item_of, kept_groups, query_rows}
use Rattle.plan_algebra.specs.KeptPlans.{plain_aggregate, selected}

ruleset computed = (values_opened, truths_opened)

pub kept_cases : KeptCases
unfolding query_rows selected values truths
kept_cases = (refl, simp computed, refl, simp computed)

-- each row stands at True or at a fault
groups_stand : (by : List ℕ) (aggregates : List (Ranked Value) → List Value)
    (xs : List (Ranked Value)) → Each Stands xs → Each Stands (kept_groups by aggregates xs)
groups_stand [] aggregates xs all = stands.total_stands aggregates xs all
groups_stand (k ∷ ks) aggregates xs all =
    stands.group_stands same_value (columns Null (k ∷ ks)) aggregates xs all

scanned_stand : (rs : List (List Value)) → Each Stands (scanned rs)
scanned_stand rs =
    Each-map Stands (λ r. ranked r true_rank) rs
    (Each-all (λ r. Stands (ranked r true_rank)) rs
    (λ r. record { not_dropped = omega arith; within = omega arith }))

pub query_stands : (plan : KeptPlan) (rows : List (List Value)) → Each Stands (query_rows plan rows)
unfolding query_rows selected
query_stands plan rows =
    let aggregates = aggregated (map item_of plan.aggregates) in
    stands.project_stands (columns Null plan.list) (kept_groups plan.by aggregates (selected plan rows))
    (groups_stand plan.by aggregates (selected plan rows)
    (stands.select_stands (holds_for plan) (scanned rows) (scanned_stand rows)))

-- a kept plan, as a plan's nodes compute it
items_same : (aggregates : List KeptAggregate)
    → map argument_and_function (map plain_aggregate aggregates) ≡ map item_of aggregates
items_same [] = refl
items_same (kept.CountRows ∷ rest) = ap (λ l. item_of kept.CountRows ∷ l) (items_same rest)
items_same (kept.Count e ∷ rest) = ap (λ l. item_of (kept.Count e) ∷ l) (items_same rest)
items_same (kept.Sum scale e ∷ rest) = ap (λ l. item_of (kept.Sum scale e) ∷ l) (items_same rest)

columns_same : (places : List ℕ) (row : List Value) → values (map Column places) row ≡ columns Null places row
unfolding values
columns_same [] row = refl
columns_same (c ∷ cs) row =
    ap (λ v. v ∷ values (map Column cs) row) (value_Column c row)
    ∙ ap (λ vs. slice_index_or row c Null ∷ vs) (columns_same cs row)

groups_same : (by : List ℕ) (aggregates : List KeptAggregate) (xs : List (Ranked Value))
    → groups by (map plain_aggregate aggregates) xs ≡ kept_groups by (aggregated (map item_of aggregates)) xs
unfolding aggregates_of
groups_same [] aggregates xs = ap (λ is. total (aggregated is) xs) (items_same aggregates)
groups_same (c ∷ cs) aggregates xs =
    ap (λ is. group_by same_value (columns Null (c ∷ cs)) (aggregated is) xs) (items_same aggregates)

pub query_staged : (plan : KeptPlan) (rows : List (List Value))
    → project (values (map Column plan.list)) (groups plan.by (map plain_aggregate plan.aggregates) (select (rank_of plan.condition) (scanned rows)))
    ≡ query_rows plan rows
unfolding query_rows selected rank_of
query_staged plan rows =
    let there = select (holds_for plan) (scanned rows) in
    ap (λ f. project f (groups plan.by (map plain_aggregate plan.aggregates) there)) (fun_ext (λ row. columns_same plan.list row))
    ∙ ap (project (columns Null plan.list)) (groups_same plan.by plan.aggregates there)
