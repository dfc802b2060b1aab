-- A node gives one bag for one bag.
use Rattle.std.proofs.Common.{ℕ, List, [], ◌∷◌}
use Rattle.std.specs.Prelude.{replicate}
use Rattle.base_row_laws.specs.Ranked.{Ranked}
use Rattle.base_row_laws.specs.Bags.{SameBag}
use Rattle.base_row_laws.specs.Rows.{columns, scanned}
use Rattle.base_row_laws.specs.Operators.{mark_of, scalar_of}
use Rattle.base_row_laws.proofs.Bags.{SameBag-refl}
use Rattle.base_row_laws.proofs.Alike.{select_alike, project_alike, total_alike, fill_alike, domain_alike, group_alike, distinct_alike}
use Rattle.base_row_laws.proofs.Pairs.{inner_matched_alike, outer_matched_alike, attach_matched_alike}
use Rattle.base_row_laws.proofs.Values.{mark_bag, scalar_bag}
use Rattle.base_set_rows.proofs.Operations.{set_rows_alike}
use Rattle.base_value.specs.declared.value.Value.{Value}
use Rattle.base_value.specs.declared.value.Value.TheVariants.{Null}
use Rattle.base_value.specs.Value.{same_value}
use Rattle.base_value.proofs.Identity.{value_identity}
use Rattle.expr_scalar.specs.Meaning.{values}
use Rattle.expr_aggregates.specs.Values.{written, value_rank}
use Rattle.expr_conditions.specs.Ranks.{rank_of}
use Rattle.plan_algebra.specs.declared.aggregate.Aggregate.{Aggregate}
use Rattle.plan_algebra.specs.declared.node.Node.TheVariants.{Scan, Kept, Domain, Select, Project, Join, Outer, Mark, Single, Group, Fill, Distinct, Set}
use Rattle.plan_algebra.specs.Aggregates.{aggregates_of}
use Rattle.plan_algebra.specs.KeptPlans.{query_rows}
use Rattle.plan_algebra.specs.NodeLaws.{NodesAlike}
use Rattle.plan_algebra.specs.Plans.{groups, rows_at}
use Rattle.plan_algebra.proofs.NoRows.{aggregates_bag}

groups_alike : (by : List ℕ) (aggregates : List Aggregate) (xs us : List (Ranked Value)) → SameBag xs us → SameBag (groups by aggregates xs) (groups by aggregates us)
groups_alike [] aggregates xs us e = total_alike (aggregates_of aggregates) xs us (aggregates_bag aggregates) e
groups_alike (c ∷ cs) aggregates xs us e = group_alike same_value value_identity (columns Null (c ∷ cs)) (aggregates_of aggregates) xs us (aggregates_bag aggregates) e

pub nodes_alike : NodesAlike
nodes_alike db some others (Scan table) all = SameBag-refl (scanned (db table))
nodes_alike db some others (Kept number plan) all = SameBag-refl (query_rows plan (db plan.table))
nodes_alike db some others (Domain i cs) all = domain_alike same_value value_identity (columns Null cs) (rows_at some i) (rows_at others i) all.0
nodes_alike db some others (Select i e) all = select_alike (rank_of e) (rows_at some i) (rows_at others i) all.0
nodes_alike db some others (Project i es) all = project_alike (values es) (rows_at some i) (rows_at others i) all.0
nodes_alike db some others (Join i j matched e) all =
    inner_matched_alike same_value Null matched (rank_of e) (rows_at some i) (rows_at others i) (rows_at some j) (rows_at others j) all.0 all.1.0
nodes_alike db some others (Outer i j matched nulls e) all =
    outer_matched_alike same_value Null matched (replicate nulls Null) (rank_of e) (rows_at some i) (rows_at others i) (rows_at some j) (rows_at others j) all.0 all.1.0
nodes_alike db some others (Mark i j matched e) all =
    attach_matched_alike same_value Null matched (mark_of written (rank_of e)) (rows_at some i) (rows_at others i) (rows_at some j) (rows_at others j) (mark_bag written (rank_of e)) all.0 all.1.0
nodes_alike db some others (Single i j matched c) all =
    attach_matched_alike same_value Null matched (λ x us. scalar_of written value_rank c us) (rows_at some i) (rows_at others i) (rows_at some j) (rows_at others j)
    (λ x. scalar_bag same_value value_identity written value_rank c) all.0 all.1.0
nodes_alike db some others (Group i by aggregates) all = groups_alike by aggregates (rows_at some i) (rows_at others i) all.0
nodes_alike db some others (Fill i j empty) all = fill_alike same_value value_identity empty (rows_at some j) (rows_at others j) (rows_at some i) (rows_at others i) all.1.0 all.0
nodes_alike db some others (Distinct i) all = distinct_alike same_value value_identity (rows_at some i) (rows_at others i) all.0
nodes_alike db some others (Set i j operation) all = set_rows_alike same_value value_identity operation (rows_at some i) (rows_at others i) (rows_at some j) (rows_at others j) all.0 all.1.0
