-- Every operator leaves rows at True or at a fault, where those it takes stand so. A table's rows
-- stand at True.
use Rattle.std.specs.Prelude.{◌≡◌, ◌≤◌, ℕ, List, Bool}
use Rattle.base_row_laws.specs.Ranked.{Ranked, too_many_rows_rank, true_rank}
use Rattle.base_row_laws.specs.Bags.{Each}
use Rattle.base_row_laws.specs.Operators.{
  select,
  project,
  cross,
  join,
  join_loop,
  outer_loop,
  attach_loop,
  group_by,
  total,
  distinct,
  domain_node,
  fill,
}
use Rattle.base_row_laws.specs.Matched.{inner_matched, outer_matched, attach_matched}
use Rattle.base_row_laws.specs.Trees.{Tree, tree_rows, node_rows}

-- the row stands at a fault or at True
pub record Stands {V : Type 0} (x : Ranked V) : Type 0 where
  pub not_dropped : too_many_rows_rank ≤ x.standing
  pub within : x.standing ≤ true_rank

-- WHERE and HAVING give rows at True or at a fault, of such rows.
abbrev pub SelectStands : (V : Type 0) → Type 0
SelectStands V = (c : List V → ℕ) (xs : List (Ranked V)) → Each Stands xs
    → Each Stands (select c xs)

-- The select list gives rows at True or at a fault, of such rows.
abbrev pub ProjectStands : (V : Type 0) → Type 0
ProjectStands V = (f : List V → List V) (xs : List (Ranked V)) → Each Stands xs
    → Each Stands (project f xs)

-- All combinations of rows at True or at a fault stand so too.
abbrev pub CrossStands : (V : Type 0) → Type 0
CrossStands V = (xs ys : List (Ranked V)) → Each Stands xs → Each Stands ys
    → Each Stands (cross xs ys)

-- The inner join gives rows at True or at a fault, of such left rows, whatever its right rows stand
-- at: the lesser counts, and what is at most Unknown is dropped. This holds also where the right
-- side is taken anew under each left row.
abbrev pub JoinStands : (V : Type 0) → Type 0
JoinStands V = (c : List V → ℕ) (ls : List (Ranked V)) (R : List V → List (Ranked V))
    → Each Stands ls → Each Stands (join_loop c ls R)

-- The left outer join likewise gives rows at True or at a fault, of such left rows.
abbrev pub OuterStands : (V : Type 0) → Type 0
OuterStands V =
    (nulls : List V) (c : List V → ℕ) (ls : List (Ranked V)) (R : List V → List (Ranked V))
    → Each Stands ls → Each Stands (outer_loop nulls c ls R)

-- With marks and scalar values left rows at True or at a fault stay so.
abbrev pub AttachStands : (V : Type 0) → Type 0
AttachStands V =
    (value : List V → List (Ranked V) → V) (ls : List (Ranked V)) (R : List V → List (Ranked V))
    → Each Stands ls → Each Stands (attach_loop value ls R)

-- GROUP BY gives groups at True or at a fault, of such rows.
abbrev pub GroupStands : {V : Type 0} → (V → V → Bool) → Type 0
GroupStands {V} same =
    (key : List V → List V) (aggregates : List (Ranked V) → List V) (xs : List (Ranked V))
    → Each Stands xs → Each Stands (group_by same key aggregates xs)

-- Aggregates without GROUP BY give one group at True or at a fault, of such rows.
abbrev pub TotalStands : (V : Type 0) → Type 0
TotalStands V = (aggregates : List (Ranked V) → List V) (xs : List (Ranked V)) → Each Stands xs
    → Each Stands (total aggregates xs)

-- DISTINCT gives rows at True or at a fault, of such rows.
abbrev pub DistinctStands : {V : Type 0} → (V → V → Bool) → Type 0
DistinctStands {V} same = (xs : List (Ranked V)) → Each Stands xs → Each Stands (distinct same xs)

-- The inner join by matched columns gives rows at True or at a fault, of such left rows.
abbrev pub InnerMatchedStands : {V : Type 0} → (V → V → Bool) → Type 0
InnerMatchedStands {V} same =
    (null : V) (matched : List (ℕ × ℕ)) (c : List V → ℕ) (xs ys : List (Ranked V))
    → Each Stands xs → Each Stands (inner_matched same null matched c xs ys)

-- The left outer join by matched columns gives rows at True or at a fault, of such left rows.
abbrev pub OuterMatchedStands : {V : Type 0} → (V → V → Bool) → Type 0
OuterMatchedStands {V} same =
    (null : V) (matched : List (ℕ × ℕ)) (nulls : List V) (c : List V → ℕ) (xs ys : List (Ranked V))
    → Each Stands xs → Each Stands (outer_matched same null matched nulls c xs ys)

-- With marks and scalar values by matched columns left rows at True or at a fault stay so.
abbrev pub AttachMatchedStands : {V : Type 0} → (V → V → Bool) → Type 0
AttachMatchedStands {V} same =
    (null : V) (matched : List (ℕ × ℕ)) (value : List V → List (Ranked V) → V)
    (xs ys : List (Ranked V))
    → Each Stands xs → Each Stands (attach_matched same null matched value xs ys)

-- A domain's rows stand at True.
abbrev pub DomainNodeStands : {V : Type 0} → (V → V → Bool) → Type 0
DomainNodeStands {V} same = (pick : List V → List V) (xs : List (Ranked V))
    → Each Stands (domain_node same pick xs)

-- A fill of groups at True or at a fault gives such rows.
abbrev pub FillStands : {V : Type 0} → (V → V → Bool) → Type 0
FillStands {V} same = (empty : List V) (ds gs : List (Ranked V)) → Each Stands gs
    → Each Stands (fill same empty ds gs)

-- The rows of every tree under every domain row, by nested loops, stand at True or at a fault.
abbrev pub TreeStands : {V : Type 0} → (V → V → Bool) → Type 0
TreeStands {V} same = (null : V) (tables : ℕ → List (List V)) (T : Tree V) (d : List V)
    → Each Stands (tree_rows same null tables T d)

-- The rows of the node that a tree is lowered to stand at True or at a fault, over a domain whose
-- rows do.
abbrev pub NodeStands : {V : Type 0} → (V → V → Bool) → Type 0
NodeStands {V} same =
    (null : V) (tables : ℕ → List (List V)) (T : Tree V) (n : ℕ) (ds : List (Ranked V))
    → Each Stands ds → Each Stands (node_rows same null tables T n ds)

-- WHERE True leaves rows at True or at a fault as they are.
abbrev pub SelectTrue : (V : Type 0) → Type 0
SelectTrue V = (xs : List (Ranked V)) → Each Stands xs → select (λ r. true_rank) xs ≡ xs

-- JOIN ON True gives all combinations of rows at True or at a fault.
abbrev pub JoinTrue : (V : Type 0) → Type 0
JoinTrue V = (xs ys : List (Ranked V)) → Each Stands xs → Each Stands ys
    → join (λ r. true_rank) xs ys ≡ cross xs ys
