-- The bags of a plan's nodes while it runs: one for each node so far, or nothing where it was let
-- go.
use Rattle.std.specs.Prelude.{◌≡◌, ℕ, ◌+◌, ◌-◌, ◌<◌, ◌==◌, ◌&&◌, ◌||◌, not, Bool, true, false}
use Rattle.std.specs.Prelude.{IsTrue, List, [], ◌∷◌, map, length, drop, Option, Some, None}
use Rattle.std.specs.Prelude.{slice_index, slice_index_or, slice_set, if◌then◌else◌}
use Rattle.std.specs.List.{list_all}
use Rattle.base_row_laws.specs.Ranked.{Ranked, Relation}
use Rattle.base_row_laws.specs.Bags.{SameBag, has}
use Rattle.base_value.specs.declared.value.Value.{Value}
use Rattle.plan_algebra.specs.declared.node.Node.{Node}
use Rattle.plan_algebra.specs.declared.node.Node.TheVariants.{Scan, Kept, Join, Outer, Mark, Single}
use Rattle.plan_algebra.specs.declared.node.Node.TheVariants.{Fill, Set}
use Rattle.plan_algebra.specs.KeptPlans.{query_rows}
use Rattle.plan_algebra.specs.Trees.{Database}
use Rattle.plan_algebra.specs.Plans.{plan_rows, plan_width, inputs_of, matches_first}

-- a bag, or nothing
abbrev pub MaybeBag : Type 0
MaybeBag = Option (Relation Value)

-- the rows of a bag; none of nothing
abbrev pub rows_kept : MaybeBag → List (Ranked Value)
rows_kept None = []
rows_kept (Some bag) = bag.rows

-- the number of columns of a bag; 0 of nothing
abbrev pub width_kept : MaybeBag → ℕ
width_kept None = 0
width_kept (Some bag) = bag.width

-- whether there is a bag
abbrev pub is_bag : MaybeBag → Bool
is_bag None = false
is_bag (Some bag) = true

-- the rows of the bags
abbrev pub all_rows : List MaybeBag → List (List (Ranked Value))
all_rows bags = map rows_kept bags

-- the numbers of columns of the bags
abbrev pub all_widths : List MaybeBag → List ℕ
all_widths bags = map width_kept bags

-- whether the bag of the node of this number is there
abbrev pub is_there : List MaybeBag → ℕ → Bool
is_there bags i = is_bag (slice_index_or bags i None)

-- whether the bags have the widths that the operator of a node asks
abbrev pub suits_widths : List ℕ → Node → Bool
suits_widths widths (Join i j matched e) = matches_first (slice_index widths j) matched
suits_widths widths (Outer i j matched nulls e) = matches_first (slice_index widths j) matched
    && (slice_index widths j == length matched + nulls)
suits_widths widths (Mark i j matched e) = matches_first (slice_index widths j) matched
suits_widths widths (Single i j matched c) = matches_first (slice_index widths j) matched
suits_widths widths (Fill i j empty) = slice_index widths i == slice_index widths j + length empty
suits_widths widths (Set i j operation) = slice_index widths i == slice_index widths j
suits_widths widths other = true

-- how many rows are read for a node: those of its table or its kept view, if it scans one
abbrev pub node_reads : Database → Node → ℕ
node_reads db (Scan table) = length (db table)
node_reads db (Kept number plan) = length (query_rows plan (db plan.table))
node_reads db other = 0

-- the bag of the last node
abbrev pub last_bag : List MaybeBag → MaybeBag
last_bag bags = slice_index_or bags (length bags - 1) None

-- whether a node can be computed from the bags: those that it reads are there and have suitable
-- widths
abbrev pub is_ready : List MaybeBag → Node → Bool
is_ready bags node = list_all (is_there bags) (inputs_of node)
    && suits_widths (all_widths bags) node

-- whether a node reads the node of this number
abbrev pub reads_node : ℕ → Node → Bool
reads_node i node = has ◌==◌ i (inputs_of node)

-- whether one of the nodes reads the node of this number
abbrev pub is_read : ℕ → List Node → Bool
is_read i [] = false
is_read i (n ∷ ns) = reads_node i n || is_read i ns

-- the bags without that of a node that none of the nodes reads
abbrev pub released : List Node → ℕ → List MaybeBag → List MaybeBag
released rest i bags = if is_read i rest then bags else slice_set bags i None

-- The bags that a node reads may be gone, where none of the nodes after it reads them. The others
-- are there as before.
pub record Spares (node : Node) (rest : List Node) (before after : List MaybeBag) : Type 0 where
  pub long : length after ≡ length before
  pub kept : (i : ℕ) → IsTrue (not (reads_node i node) || is_read i rest)
      → slice_index_or after i None ≡ slice_index_or before i None

-- whether a node is needed once the first k nodes are computed: it is the last of these, or one
-- after them reads it
abbrev pub is_needed : List Node → ℕ → ℕ → Bool
is_needed nodes k i = (i + 1 == k) || is_read i (drop k nodes)

-- a bag of the rows of the node of this number
pub record IsBagOf (db : Database) (nodes : List Node) (i : ℕ) (bag : MaybeBag) : Type 0 where
  pub there : IsTrue (is_bag bag)
  pub rows : SameBag (rows_kept bag) (plan_rows db nodes i)
  pub width : width_kept bag ≡ plan_width nodes i

-- the bags of the first k nodes, as far as they are needed
pub record AreBags (db : Database) (nodes : List Node) (k : ℕ) (bags : List MaybeBag) : Type 0 where
  pub long : length bags ≡ k
  pub each : (i : ℕ) → i < k → IsTrue (is_needed nodes k i)
      → IsBagOf db nodes i (slice_index_or bags i None)
