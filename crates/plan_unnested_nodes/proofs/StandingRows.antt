-- The rows of each node of a plan stand at True or at a fault.
use Rattle.std.proofs.Common.{◌≡◌, ℕ, zero, suc, ◌+◌, ◌<◌, List, [], ◌∷◌, ◌++◌, refl, sym, subst, arith, inl, inr, length}
use Rattle.std.specs.Prelude.{replicate}
use Rattle.std.proofs.lemmas.Bool.{cases_lt}
use Rattle.std.proofs.lemmas.List.{length-append, get_or_append_left, get_or_push, get_or_past}
use Rattle.base_row_laws.specs.Ranked.{Ranked, ranked}
use Rattle.base_row_laws.specs.Bags.{Each}
use Rattle.base_row_laws.specs.Rows.{columns, scanned}
use Rattle.base_row_laws.specs.Operators.{total, mark_of, scalar_of}
use Rattle.base_row_laws.specs.StandingLaws.{Stands}
use Rattle.base_row_laws.proofs.Lists.{Each-map, Each-all}
use Rattle.base_row_laws.proofs.Standings.{select_stands, project_stands, group_stands, total_stands, inner_matched_stands, outer_matched_stands, attach_matched_stands, fill_stands, domain_node_stands, distinct_stands}
use Rattle.base_set_rows.proofs.Operations.{set_rows_stand}
use Rattle.base_value.specs.declared.value.Value.{Value}
use Rattle.base_value.specs.declared.value.Value.TheVariants.{Null}
use Rattle.base_value.specs.Value.{same_value}
use Rattle.base_value.proofs.Identity.{value_identity}
use Rattle.expr_scalar.specs.Meaning.{values}
use Rattle.expr_conditions.specs.Ranks.{rank_of}
use Rattle.expr_aggregates.specs.Values.{written, value_rank}
use Rattle.plan_algebra.specs.declared.aggregate.Aggregate.{Aggregate}
use Rattle.plan_algebra.specs.declared.node.Node.{Node}
use Rattle.plan_algebra.specs.declared.node.Node.TheVariants as node
use Rattle.plan_algebra.specs.Aggregates.{aggregates_of}
use Rattle.plan_algebra.specs.Trees.{Database}
use Rattle.plan_algebra.proofs.KeptPlans.{query_stands}
use Rattle.plan_algebra.specs.Plans.{groups, rows_at, node_rows, made_from, plan_rows}

-- the rows of each of these nodes stand so
abbrev AllStand : List (List (Ranked Value)) → Type 0
AllStand before = (i : ℕ) → Each Stands (rows_at before i)

scanned_stands : (rows : List (List Value)) → Each Stands (scanned rows)
scanned_stands rows =
    Each-map Stands (λ r. ranked r 5) rows
    (Each-all (λ (r : List Value). Stands (ranked r 5)) rows (λ r. record { not_dropped = omega arith; within = omega arith }))

groups_stand : (by : List ℕ) (aggregates : List Aggregate) (xs : List (Ranked Value)) → Each Stands xs → Each Stands (groups by aggregates xs)
groups_stand [] aggregates xs all = total_stands (aggregates_of aggregates) xs all
groups_stand (c ∷ cs) aggregates xs all = group_stands same_value (columns Null (c ∷ cs)) (aggregates_of aggregates) xs all

node_stands : (db : Database) (before : List (List (Ranked Value))) (n : Node) → AllStand before → Each Stands (node_rows db before n)
node_stands db before (node.Scan table) all = scanned_stands (db table)
node_stands db before (node.Kept number plan) all = query_stands plan (db plan.table)
node_stands db before (node.Domain i cs) all = domain_node_stands same_value (columns Null cs) (rows_at before i)
node_stands db before (node.Select i e) all = select_stands (rank_of e) (rows_at before i) (all i)
node_stands db before (node.Project i es) all = project_stands (values es) (rows_at before i) (all i)
node_stands db before (node.Join i j matched e) all = inner_matched_stands same_value Null matched (rank_of e) (rows_at before i) (rows_at before j) (all i)
node_stands db before (node.Outer i j matched nulls e) all =
    outer_matched_stands same_value Null matched (replicate nulls Null) (rank_of e) (rows_at before i) (rows_at before j) (all i)
node_stands db before (node.Mark i j matched e) all =
    attach_matched_stands same_value Null matched (mark_of written (rank_of e)) (rows_at before i) (rows_at before j) (all i)
node_stands db before (node.Single i j matched c) all =
    attach_matched_stands same_value Null matched (λ x us. scalar_of written value_rank c us) (rows_at before i) (rows_at before j) (all i)
node_stands db before (node.Group i by aggregates) all = groups_stand by aggregates (rows_at before i) (all i)
node_stands db before (node.Fill i j empty) all = fill_stands same_value empty (rows_at before j) (rows_at before i) (all i)
node_stands db before (node.Distinct i) all = distinct_stands same_value value_identity (rows_at before i) (all i)
node_stands db before (node.Set i j operation) all = set_rows_stand same_value value_identity operation (rows_at before i) (rows_at before j) (all i) (all j)

one_more : (before : List (List (Ranked Value))) (xs : List (Ranked Value)) → AllStand before → Each Stands xs → AllStand (before ++ xs ∷ [])
one_more [] xs all here zero = here
one_more [] xs all here (suc i) = tt
one_more (b ∷ before) xs all here zero = all 0
one_more (b ∷ before) xs all here (suc i) = one_more before xs (λ k. all (suc k)) here i

all_more : (db : Database) (before : List (List (Ranked Value))) (nodes : List Node) → AllStand before → AllStand (made_from (node_rows db) before nodes)
all_more db before [] all = all
all_more db before (n ∷ nodes) all = all_more db (before ++ node_rows db before n ∷ []) nodes (one_more before (node_rows db before n) all (node_stands db before n all))

pub rows_stand : (db : Database) (nodes : List Node) (i : ℕ) → Each Stands (plan_rows db nodes i)
unfolding plan_rows
rows_stand db nodes i = all_more db [] nodes (λ k. tt) i
