-- The node laws of unnesting, for one domain row d: where the inputs of a node meet the loops under
-- d, so does the node.
use Rattle.std.specs.Prelude.{◌≡◌, ℕ, ◌≤◌, ◌⊎◌, List, [], ◌++◌, Bool, true, false, map, min, take}
use Rattle.std.specs.Prelude.{length}
use Rattle.base_row_laws.specs.Ranked.{Ranked, unknown_rank}
use Rattle.base_row_laws.specs.Bags.{OfBag, Each}
use Rattle.base_row_laws.specs.Rows.{same_row, starts, after, columns}
use Rattle.base_row_laws.specs.Operators.{
  select,
  project,
  join_node,
  outer_node,
  attach_node,
  mark_node,
  single_node,
  mark_of,
  scalar_of,
  join_loop,
  outer_loop,
  attach_loop,
  group_by,
  distinct,
}
use Rattle.base_row_laws.specs.Domains.{Meets}

-- The partners of the left rows that begin with d: the right node's rows ys meet R under what
-- `pick` takes of such a row.
-- Of left rows that begin otherwise nothing is asked.
abbrev pub PartnersMeet : {V : Type 0} → (V → V → Bool) → (List V → List V) → List V
    → List (Ranked V) → List (Ranked V) → (List V → List (Ranked V)) → Type 0
PartnersMeet same pick d xs ys R =
    Each (λ x. starts same d x.values ≡ true → Meets same (pick x.values) ys (R (pick x.values))) xs

-- The node of a right side that has the domain's n values in columns bs of its own:
-- each row stands after these, kept where `whole` and c hold.
abbrev pub local_node : {V : Type 0} → V → List ℕ → ℕ → (List V → ℕ) → (List V → ℕ)
    → List (Ranked V) → List (Ranked V)
local_node null bs n whole c ts =
    select (λ r. min (whole (take n r)) (c r)) (project (λ t. columns null bs t ++ t) ts)

-- SQL's d = v, given by `equal`: at identical rows it is what `whole` says of v, or both are at
-- most Unknown, as at nulls; at others it is at most Unknown.
pub record Equates {V : Type 0} (same : V → V → Bool) (equal : List V → List V → ℕ)
    (whole : List V → ℕ) (d v : List V) : Type 0 where
  pub where_same : same_row same d v ≡ true → (equal d v ≡ whole v)
      ⊎ ((equal d v ≤ unknown_rank) × (whole v ≤ unknown_rank))
  pub elsewhere : same_row same d v ≡ false → equal d v ≤ unknown_rank

-- A node over no domain columns: its rows are the rows themselves.
abbrev pub ClosedMeets : {V : Type 0} → (V → V → Bool) → Type 0
ClosedMeets {V} same = (ys : List (Ranked V)) → Meets same [] ys ys

-- Selection under one domain row.
abbrev pub SelectMeets : {V : Type 0} → (V → V → Bool) → Type 0
SelectMeets {V} same = (c : List V → ℕ) (d : List V) (xs ts : List (Ranked V))
    → Meets same d xs ts
    → Meets same d (select c xs) (select (λ t. c (d ++ t)) ts)

-- Projection, which keeps the domain columns, under one domain row.
abbrev pub ProjectMeets : {V : Type 0} → (V → V → Bool) → Type 0
ProjectMeets {V} same = (f : List V → List V) (d : List V) (xs ts : List (Ranked V))
    → Meets same d xs ts
    → Meets same d (project (λ r. take (length d) r ++ f r) xs) (project (λ t. f (d ++ t)) ts)

-- The inner join under one domain row.
abbrev pub JoinMeets : {V : Type 0} → (V → V → Bool) → Type 0
JoinMeets {V} same =
    (pick : List V → List V) (c : List V → ℕ) (d : List V) (xs ys ts : List (Ranked V))
    (R : List V → List (Ranked V))
    → Meets same d xs ts → PartnersMeet same pick d xs ys R
    → Meets same d (join_node same pick c xs ys)
    (join_loop (λ t. c (d ++ t)) ts (λ l. R (pick (d ++ l))))

-- The left outer join under one domain row.
abbrev pub OuterMeets : {V : Type 0} → (V → V → Bool) → Type 0
OuterMeets {V} same =
    (pick : List V → List V) (nulls : List V) (c : List V → ℕ) (d : List V)
    (xs ys ts : List (Ranked V)) (R : List V → List (Ranked V))
    → Meets same d xs ts → PartnersMeet same pick d xs ys R
    → Meets same d (outer_node same pick nulls c xs ys)
    (outer_loop nulls (λ t. c (d ++ t)) ts (λ l. R (pick (d ++ l))))

-- A column that is a function of the left row and of the bag of its partners, under one domain row.
abbrev pub AttachMeets : {V : Type 0} → (V → V → Bool) → Type 0
AttachMeets {V} same =
    (pick : List V → List V) (value : List V → List (Ranked V) → V) (d : List V)
    (xs ys ts : List (Ranked V)) (R : List V → List (Ranked V))
    → ((x : List V) → OfBag (value x)) → Meets same d xs ts → PartnersMeet same pick d xs ys R
    → Meets same d (attach_node same pick value xs ys)
    (attach_loop (λ l. value (d ++ l)) ts (λ l. R (pick (d ++ l))))

-- The mark of EXISTS and IN under one domain row.
abbrev pub MarkMeets : {V : Type 0} → (V → V → Bool) → Type 0
MarkMeets {V} same =
    (pick : List V → List V) (write : ℕ → V) (c : List V → ℕ) (d : List V)
    (xs ys ts : List (Ranked V)) (R : List V → List (Ranked V))
    → Meets same d xs ts → PartnersMeet same pick d xs ys R
    → Meets same d (mark_node same pick write c xs ys)
    (attach_loop (λ l. mark_of write c (d ++ l)) ts (λ l. R (pick (d ++ l))))

-- A scalar subquery's value under one domain row.
abbrev pub SingleMeets : {V : Type 0} → (V → V → Bool) → Type 0
SingleMeets {V} same =
    (pick : List V → List V) (write : ℕ → V) (fault_rank : V → ℕ) (i : ℕ) (d : List V)
    (xs ys ts : List (Ranked V))
    (R : List V → List (Ranked V))
    → Meets same d xs ts → PartnersMeet same pick d xs ys R
    → Meets same d (single_node same pick write fault_rank i xs ys)
    (attach_loop (λ l us. scalar_of write fault_rank i us) ts (λ l. R (pick (d ++ l))))

-- GROUP BY, which takes the domain's columns among its own, under one domain row.
abbrev pub GroupMeets : {V : Type 0} → (V → V → Bool) → Type 0
GroupMeets {V} same =
    (grouping : List V → List V) (aggregates : List (Ranked V) → List V) (d : List V)
    (xs ts : List (Ranked V))
    → OfBag aggregates → Meets same d xs ts
    → Meets same d (group_by same (λ x. take (length d) x ++ grouping x) aggregates xs)
    (group_by same (λ t. grouping (d ++ t)) (λ ys. aggregates (map (after d) ys)) ts)

-- Aggregates without GROUP BY under one domain row, before the fill: groups by the domain's columns
-- alone.
abbrev pub KeyMeets : {V : Type 0} → (V → V → Bool) → Type 0
KeyMeets {V} same = (aggregates : List (Ranked V) → List V) (d : List V) (xs ts : List (Ranked V))
    → OfBag aggregates → Meets same d xs ts
    → Meets same d (group_by same (λ x. take (length d) x) aggregates xs)
    (group_by same (λ t. []) (λ ys. aggregates (map (after d) ys)) ts)

-- A right side that has the domain's values in columns bs of its own, and asks in its WHERE that
-- they equal the domain's, needs no domain: its rows take their own values as domain columns, and
-- the equality becomes a condition on these alone, as `is not null`.
abbrev pub LocalMeets : {V : Type 0} → (V → V → Bool) → Type 0
LocalMeets {V} same =
    (null : V) (bs : List ℕ) (whole c : List V → ℕ) (equal : List V → List V → ℕ) (d : List V)
    (ts : List (Ranked V))
    → length bs ≡ length d → Each (λ t. Equates same equal whole d (columns null bs t.values)) ts
    → Meets same d (local_node null bs (length d) whole c ts)
    (select (λ t. min (equal d (columns null bs t)) (c (d ++ t))) ts)

-- DISTINCT under one domain row.
abbrev pub DistinctMeets : {V : Type 0} → (V → V → Bool) → Type 0
DistinctMeets {V} same = (d : List V) (xs ts : List (Ranked V)) → Meets same d xs ts
    → Meets same d (distinct same xs) (distinct same ts)
