-- Dependent trees, their meaning by nested loops, and the rows of the nodes that they are lowered
-- to.
use Rattle.std.specs.Prelude.{ℕ, List, [], ◌++◌, Bool, map, length, take}
use Rattle.base_row_laws.specs.Ranked.{Ranked, true_rank}
use Rattle.base_row_laws.specs.Bags.{OfBag}
use Rattle.base_row_laws.specs.Rows.{after, columns, scanned, unit_row}
use Rattle.base_row_laws.specs.Operators.{
  select,
  project,
  join_node,
  outer_node,
  mark_node,
  single_node,
  mark_of,
  scalar_of,
  join_loop,
  outer_loop,
  attach_loop,
  group_by,
  distinct,
  domain_node,
  fill,
  total,
}

-- What a right side reads of what stands to its left: nothing;
-- the columns of the domain that its left side has too; or these columns of the domain row and the
-- left row.
pub data Side : Type 0 where
  Closed : Side
  Shared : Side
  Dependent : (cs : List ℕ) → Side

-- A tree over a domain row d. Its expressions read d ++ t, t being a row of its input; they are any
-- functions.
-- A right side is a tree over a domain row of its own, by `Side`. EXISTS and IN are Mark, a scalar
-- subquery is Single, HAVING is Select;
-- Group has a GROUP BY, Total has none. Their aggregates are functions of the bag of rows.
-- OneRow is the one row of no columns, which stands to the left of a closed right side that FROM
-- begins with.
pub data Tree (V : Type 0) : Type 0 where
  OneRow : Tree V
  Scan : (table : ℕ) → Tree V
  Select : (c : List V → ℕ) → Tree V → Tree V
  Project : (f : List V → List V) → Tree V → Tree V
  Join : (side : Side) (c : List V → ℕ) → Tree V → Tree V → Tree V
  Outer : (side : Side) (nulls : List V) (c : List V → ℕ) → Tree V → Tree V → Tree V
  Mark : (side : Side) (write : ℕ → V) (c : List V → ℕ) → Tree V → Tree V → Tree V
  Single : (side : Side) (write : ℕ → V) (fault_rank : V → ℕ) (i : ℕ) → Tree V → Tree V → Tree V
  Group : (grouping : List V → List V) (aggregates : List (Ranked V) → List V) → OfBag aggregates
      → Tree V → Tree V
  Total : (aggregates : List (Ranked V) → List V) → OfBag aggregates → Tree V → Tree V
  Distinct : Tree V → Tree V

module _ {V : Type 0} (null : V) where
  -- the right side's domain row, under the domain row d and the left row l
  abbrev pub side_row : Side → List V → List V → List V
  side_row Closed d l = []
  side_row Shared d l = d
  side_row (Dependent cs) d l = columns null cs (d ++ l)

  -- the columns of a left node's row, n of them its domain's, that its partners begin with
  abbrev pub side_pick : Side → ℕ → List V → List V
  side_pick Closed n x = []
  side_pick Shared n x = take n x
  side_pick (Dependent cs) n x = columns null cs x

-- how many columns the right side's domain has, where the left's has n
abbrev pub side_width : Side → ℕ → ℕ
side_width Closed n = 0
side_width Shared n = n
side_width (Dependent cs) n = length cs

module _ {V : Type 0} (same : V → V → Bool) (null : V) where
  -- the right side's domain: of the left's domain ds and the left node's rows xs
  abbrev pub side_domain : Side → List (Ranked V) → List (Ranked V) → List (Ranked V)
  side_domain Closed ds xs = unit_row
  side_domain Shared ds xs = ds
  side_domain (Dependent cs) ds xs = domain_node same (columns null cs) xs

-- `tables` gives the rows of each table.
module _ {V : Type 0} (same : V → V → Bool) (null : V) (tables : ℕ → List (List V)) where
  -- The tree's rows by nested loops, under the domain row d: a right side is taken anew under each
  -- left row.
  abbrev pub tree_rows : Tree V → List V → List (Ranked V)
  tree_rows OneRow d = unit_row
  tree_rows (Scan table) d = scanned (tables table)
  tree_rows (Select c T) d = select (λ t. c (d ++ t)) (tree_rows T d)
  tree_rows (Project f T) d = project (λ t. f (d ++ t)) (tree_rows T d)
  tree_rows (Join side c L R) d =
      join_loop (λ t. c (d ++ t)) (tree_rows L d) (λ l. tree_rows R (side_row null side d l))
  tree_rows (Outer side nulls c L R) d =
      outer_loop nulls (λ t. c (d ++ t)) (tree_rows L d) (λ l. tree_rows R (side_row null side d l))
  tree_rows (Mark side write c L R) d =
      attach_loop (λ l. mark_of write c (d ++ l)) (tree_rows L d)
      (λ l. tree_rows R (side_row null side d l))
  tree_rows (Single side write fault_rank i L R) d =
      attach_loop (λ l us. scalar_of write fault_rank i us) (tree_rows L d)
      (λ l. tree_rows R (side_row null side d l))
  tree_rows (Group grouping aggregates bag T) d =
      group_by same (λ t. grouping (d ++ t)) (λ ys. aggregates (map (after d) ys)) (tree_rows T d)
  tree_rows (Total aggregates bag T) d = total (λ ys. aggregates (map (after d) ys)) (tree_rows T d)
  tree_rows (Distinct T) d = distinct same (tree_rows T d)

  -- The rows of the node that the tree is lowered to over the domain ds of n columns: no operator
  -- takes anything anew.
  abbrev pub node_rows : Tree V → ℕ → List (Ranked V) → List (Ranked V)
  node_rows OneRow n ds = ds
  node_rows (Scan table) n ds =
      join_node same (λ x. []) (λ t. true_rank) ds (scanned (tables table))
  node_rows (Select c T) n ds = select c (node_rows T n ds)
  node_rows (Project f T) n ds = project (λ x. take n x ++ f x) (node_rows T n ds)
  node_rows (Join side c L R) n ds =
      let xs = node_rows L n ds in
      join_node same (side_pick null side n) c xs
      (node_rows R (side_width side n) (side_domain same null side ds xs))
  node_rows (Outer side nulls c L R) n ds =
      let xs = node_rows L n ds in
      outer_node same (side_pick null side n) nulls c xs
      (node_rows R (side_width side n) (side_domain same null side ds xs))
  node_rows (Mark side write c L R) n ds =
      let xs = node_rows L n ds in
      mark_node same (side_pick null side n) write c xs
      (node_rows R (side_width side n) (side_domain same null side ds xs))
  node_rows (Single side write fault_rank i L R) n ds =
      let xs = node_rows L n ds in
      single_node same (side_pick null side n) write fault_rank i xs
      (node_rows R (side_width side n) (side_domain same null side ds xs))
  node_rows (Group grouping aggregates bag T) n ds =
      group_by same (λ x. take n x ++ grouping x) aggregates (node_rows T n ds)
  node_rows (Total aggregates bag T) n ds =
      fill same (aggregates []) ds (group_by same (λ x. take n x) aggregates (node_rows T n ds))
  node_rows (Distinct T) n ds = distinct same (node_rows T n ds)
