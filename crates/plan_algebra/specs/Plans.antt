-- What a flat plan means: the rows of its nodes, one after the other; their widths; what it scans
-- and reads; and when it is well formed.
use Rattle.std.specs.Prelude.{ℕ, ◌+◌, ◌-◌, ◌==◌, ◌&&◌, nat_lt, nat_le, Bool, true, false}
use Rattle.std.specs.Prelude.{List, [], ◌∷◌, ◌++◌, length, replicate, Option, Some}
use Rattle.std.specs.Prelude.{slice_get, slice_index, slice_index_or}
use Rattle.std.specs.List.{flat_map, list_all, range_with_len, sum_by}
use Rattle.std.proofs.Common.{inl, inr}
use Rattle.std.specs.Cmp.Lexicographic.{pointwise}
use Rattle.base_row_laws.specs.Ranked.{Ranked}
use Rattle.base_row_laws.specs.Rows.{columns, scanned}
use Rattle.base_row_laws.specs.Operators.{select, project, group_by, total, distinct, domain_node}
use Rattle.base_row_laws.specs.Operators.{fill}
use Rattle.base_row_laws.specs.Matched.{right_places, inner_matched, outer_matched, mark_matched}
use Rattle.base_row_laws.specs.Matched.{single_matched}
use Rattle.base_set_rows.specs.SetOperations.{set_rows}
use Rattle.base_value.specs.declared.value.Value.{Value}
use Rattle.base_value.specs.declared.value.Value.TheVariants.{Null}
use Rattle.base_value.specs.Value.{same_value, same_row}
use Rattle.expr_scalar.specs.Meaning.{values}
use Rattle.base_schema.specs.declared.table.TableName.{TableName}
use Rattle.base_schema.specs.Tables.{kinds_of}
use Rattle.plan_algebra.specs.declared.aggregate.Aggregate.{Aggregate}
use Rattle.plan_algebra.specs.declared.node.Node.{Node}
use Rattle.plan_algebra.specs.declared.node.Node.TheVariants.{Scan, Kept, Domain, Select, Project}
use Rattle.plan_algebra.specs.declared.node.Node.TheVariants.{Join, Outer}
use Rattle.plan_algebra.specs.declared.node.Node.TheVariants.{Mark, Single, Group, Fill, Distinct}
use Rattle.plan_algebra.specs.declared.node.Node.TheVariants.{Set}
use Rattle.expr_aggregates.specs.Values.{written, value_rank}
use Rattle.expr_conditions.specs.Ranks.{rank_of}
use Rattle.plan_algebra.specs.Aggregates.{aggregates_of}
use Rattle.plan_algebra.specs.KeptPlans.{query_rows}
use Rattle.plan_algebra.specs.States.{state_of}
use Rattle.plan_algebra.specs.Trees.{Database, Occurrence, kept_count}

-- GROUP BY these columns, with aggregates; without columns one group of all rows, also where there
-- are none
abbrev pub groups : List ℕ → List Aggregate → List (Ranked Value) → List (Ranked Value)
groups [] aggregates rows = total (aggregates_of aggregates) rows
groups (c ∷ cs) aggregates rows =
    group_by same_value (columns Null (c ∷ cs)) (aggregates_of aggregates) rows

-- the rows of the node of this number
abbrev pub rows_at : List (List (Ranked Value)) → ℕ → List (Ranked Value)
rows_at before i = slice_index_or before i []

-- a node's rows, from those of the nodes before it
abbrev pub node_rows : Database → List (List (Ranked Value)) → Node → List (Ranked Value)
node_rows db before (Scan table) = scanned (db table)
node_rows db before (Kept number plan) = query_rows plan (db plan.table)
node_rows db before (Domain i cs) = domain_node same_value (columns Null cs) (rows_at before i)
node_rows db before (Select i e) = select (rank_of e) (rows_at before i)
node_rows db before (Project i es) = project (values es) (rows_at before i)
node_rows db before (Join i j matched e) =
    inner_matched same_value Null matched (rank_of e) (rows_at before i) (rows_at before j)
node_rows db before (Outer i j matched nulls e) =
    outer_matched same_value Null matched (replicate nulls Null) (rank_of e) (rows_at before i)
    (rows_at before j)
node_rows db before (Mark i j matched e) =
    mark_matched same_value Null matched written (rank_of e) (rows_at before i) (rows_at before j)
node_rows db before (Single i j matched c) =
    single_matched same_value Null matched written value_rank c (rows_at before i)
    (rows_at before j)
node_rows db before (Group i by aggregates) = groups by aggregates (rows_at before i)
node_rows db before (Fill i j empty) = fill same_value empty (rows_at before j) (rows_at before i)
node_rows db before (Distinct i) = distinct same_value (rows_at before i)
node_rows db before (Set i j operation) =
    set_rows same_value operation (rows_at before i) (rows_at before j)

-- what f makes of each node, from what it made of the nodes before it
abbrev pub made_from : {X : Type 0} → (List X → Node → X) → List X → List Node → List X
made_from f before [] = before
made_from f before (n ∷ ns) = made_from f (before ++ f before n ∷ []) ns

-- the rows of the node of this number
unfoldable pub plan_rows : Database → List Node → ℕ → List (Ranked Value)
plan_rows db nodes i = rows_at (made_from (node_rows db) [] nodes) i

-- the rows of a plan are those of its last node; a plan of no nodes has none
abbrev pub result_rows : Database → List Node → List (Ranked Value)
result_rows db nodes = plan_rows db nodes (length nodes - 1)

-- a node's number of columns, from those of the nodes before it
abbrev pub node_width : List ℕ → Node → ℕ
node_width before (Scan table) = length (kinds_of table)
node_width before (Kept number plan) = length plan.list
node_width before (Domain i cs) = length cs
node_width before (Select i e) = slice_index before i
node_width before (Project i es) = length es
node_width before (Join i j matched e) =
    slice_index before i + (slice_index before j - length matched)
node_width before (Outer i j matched nulls e) = slice_index before i + nulls
node_width before (Mark i j matched e) = slice_index before i + 1
node_width before (Single i j matched c) = slice_index before i + 1
node_width before (Group i by aggregates) = length by + length aggregates
node_width before (Fill i j empty) = slice_index before j + length empty
node_width before (Distinct i) = slice_index before i
node_width before (Set i j operation) = slice_index before i

-- the number of columns of the node of this number
unfoldable pub plan_width : List Node → ℕ → ℕ
plan_width nodes i = slice_index (made_from node_width [] nodes) i

-- the number of columns of a plan's rows; 0 for a plan of no nodes
abbrev pub result_width : List Node → ℕ
result_width nodes = plan_width nodes (length nodes - 1)

-- the table or kept view that a node scans
abbrev pub scan_of : Node → List Occurrence
scan_of (Scan table) = inl table ∷ []
scan_of (Kept number plan) = inr (kept_count plan) ∷ []
scan_of other = []

-- the tables and kept views that nodes scan, once for each scan
abbrev pub plan_scans : List Node → List Occurrence
plan_scans nodes = flat_map scan_of nodes

-- 1 for a domain
abbrev pub is_domain : Node → ℕ
is_domain (Domain i cs) = 1
is_domain other = 0

-- how many of the nodes are domains
abbrev pub plan_domains : List Node → ℕ
plan_domains nodes = sum_by is_domain nodes

-- how many rows a table or a kept view has
abbrev pub rows_read : Database → Occurrence → ℕ
rows_read db (inl table) = length (db table)
rows_read db (inr count) = count (state_of db)

-- how many rows are read to scan these tables and kept views, each as often as it stands there
unfoldable pub reads_of : Database → List Occurrence → ℕ
reads_of db scans = sum_by (rows_read db) scans

-- how many rows a plan reads: those of each table and each kept view that it scans, once for each
-- scan
abbrev pub plan_reads : Database → List Node → ℕ
plan_reads db nodes = reads_of db (plan_scans nodes)

-- the numbers of the nodes that a node reads, in its order
abbrev pub inputs_of : Node → List ℕ
inputs_of (Scan table) = []
inputs_of (Kept number plan) = []
inputs_of (Domain i cs) = i ∷ []
inputs_of (Select i e) = i ∷ []
inputs_of (Project i es) = i ∷ []
inputs_of (Join i j matched e) = i ∷ j ∷ []
inputs_of (Outer i j matched nulls e) = i ∷ j ∷ []
inputs_of (Mark i j matched e) = i ∷ j ∷ []
inputs_of (Single i j matched c) = i ∷ j ∷ []
inputs_of (Group i by aggregates) = i ∷ []
inputs_of (Fill i j empty) = i ∷ j ∷ []
inputs_of (Distinct i) = i ∷ []
inputs_of (Set i j operation) = i ∷ j ∷ []

-- the pairs match columns with the right side's first ones, which are there
abbrev pub matches_first : ℕ → List (ℕ × ℕ) → Bool
matches_first width matched =
    pointwise ◌==◌ (right_places matched) (range_with_len 0 (length matched))
    && nat_le (length matched) width

-- a node is a group by just the n columns of a domain, and has these aggregates of no rows
abbrev pub groups_by_domain : ℕ → List Value → Option Node → Bool
groups_by_domain n empty (Some (Group i by aggregates)) = pointwise ◌==◌ by (range_with_len 0 n)
    && same_row (aggregates_of aggregates []) empty
groups_by_domain n empty other = false

-- what a node asks of the nodes before it, but that they are there
abbrev pub suits : List Node → Node → Bool
suits before (Join i j matched e) = matches_first (plan_width before j) matched
suits before (Outer i j matched nulls e) = matches_first (plan_width before j) matched
    && (plan_width before j == length matched + nulls)
suits before (Mark i j matched e) = matches_first (plan_width before j) matched
suits before (Single i j matched c) = matches_first (plan_width before j) matched
suits before (Fill i j empty) = groups_by_domain (plan_width before j) empty (slice_get before i)
suits before (Set i j operation) = plan_width before i == plan_width before j
suits before other = true

-- a node reads nodes before it only, and suits them
unfoldable pub fits : List Node → Node → Bool
fits before node = list_all (λ i. nat_lt i (length before)) (inputs_of node) && suits before node

-- each of the nodes fits after those before it
abbrev pub all_fit : List Node → List Node → Bool
all_fit before [] = true
all_fit before (n ∷ ns) = fits before n && all_fit (before ++ n ∷ []) ns

-- a plan in which each node fits
unfoldable pub is_formed : List Node → Bool
is_formed nodes = all_fit [] nodes
