-- The node laws of unnesting, for a whole domain: where the inputs of a node answer the loops over
-- the domain, so does the node.
use Rattle.std.specs.Prelude.{◌≡◌, ℕ, List, [], ◌++◌, Bool, true, map, min, take, length}
use Rattle.base_row_laws.specs.Ranked.{Ranked, ranked, true_rank}
use Rattle.base_row_laws.specs.Bags.{SameBag, OfBag, Each}
use Rattle.base_row_laws.specs.Rows.{after, columns, scanned, unit_row}
use Rattle.base_row_laws.specs.Operators.{
  select,
  project,
  join_node,
  outer_node,
  attach_node,
  join_loop,
  outer_loop,
  attach_loop,
  or_else,
  group_by,
  total,
  distinct,
  domain_node,
  fill,
}
use Rattle.base_row_laws.specs.Domains.{under, no_two, meeting, IsDomain, Meets, Answers}
use Rattle.base_row_laws.specs.LoopLaws.{local_node, Equates}
use Rattle.base_row_laws.specs.Trees.{Side, side_row, side_pick, side_width, side_domain}

-- The two sides of a node over the domain ds of n columns: the left node's rows xs answer the loops
-- L over ds, and the right node's rows ys the loops R over the right side's domain.
pub record SidesAnswer {V : Type 0} (same : V → V → Bool) (null : V) (side : Side) (n : ℕ)
    (ds xs ys : List (Ranked V)) (L R : List V → List (Ranked V)) : Type 0 where
  pub domain : IsDomain same n ds
  pub left : Answers same ds xs L
  pub right : Answers same (side_domain same null side ds xs) ys R

-- The one row of no columns is a domain, which a whole query is lowered over.
abbrev pub UnitRowIsDomain : {V : Type 0} → (V → V → Bool) → Type 0
UnitRowIsDomain {V} same = IsDomain same 0 unit_row

-- The domain node of rows of which `pick` takes n values is a domain: no two of its rows are
-- identical.
abbrev pub DomainNodeIsDomain : {V : Type 0} → (V → V → Bool) → Type 0
DomainNodeIsDomain {V} same = (pick : List V → List V) (n : ℕ) (xs : List (Ranked V))
    → Each (λ x. length (pick x.values) ≡ n) xs
    → IsDomain same n (domain_node same pick xs)

-- A right side's domain is one: of no columns, the left's, or columns computed from the left rows.
abbrev pub SideIsDomain : {V : Type 0} → (V → V → Bool) → Type 0
SideIsDomain {V} same = (null : V) (side : Side) (n : ℕ) (ds xs : List (Ranked V))
    → IsDomain same n ds
    → IsDomain same (side_width side n) (side_domain same null side ds xs)

-- No left row is missed: what the right side meets under each row of the domain node, it meets
-- under what `pick` takes of each left row.
abbrev pub LeftRowsMet : {V : Type 0} → (V → V → Bool) → Type 0
LeftRowsMet {V} same =
    (pick : List V → List V) (xs ys : List (Ranked V)) (R : List V → List (Ranked V))
    → Answers same (domain_node same pick xs) ys R
    → Each (λ x. Meets same (pick x.values) ys (R (pick x.values))) xs

-- The one row of no columns over a domain: the domain's own rows.
abbrev pub OneRowAnswers : {V : Type 0} → (V → V → Bool) → Type 0
OneRowAnswers {V} same = (n : ℕ) (ds : List (Ranked V)) → IsDomain same n ds
    → Answers same ds ds (λ d. unit_row)

-- The root of a plan: rows answer loops over the one row of no columns exactly where they are, as a
-- bag, what the loops give under it.
abbrev pub RootAnswers : {V : Type 0} → (V → V → Bool) → Type 0
RootAnswers {V} same = (xs : List (Ranked V)) (L : List V → List (Ranked V))
    → (Answers same unit_row xs L → SameBag xs (L []))
    × (SameBag xs (L []) → Answers same unit_row xs L)

-- Over the one row of no columns aggregates without GROUP BY need no fill: the groups by no
-- columns, filled, are the one group of all rows.
abbrev pub TotalWithoutFill : {V : Type 0} → (V → V → Bool) → Type 0
TotalWithoutFill {V} same = (aggregates : List (Ranked V) → List V) (xs : List (Ranked V))
    → fill same (aggregates []) unit_row (group_by same (λ x. []) aggregates xs)
    ≡ total aggregates xs

-- So the one group of all rows answers them.
abbrev pub TotalAloneAnswers : {V : Type 0} → (V → V → Bool) → Type 0
TotalAloneAnswers {V} same =
    (aggregates : List (Ranked V) → List V) (xs : List (Ranked V)) (L : List V → List (Ranked V))
    → OfBag aggregates → Answers same unit_row xs L
    → Answers same unit_row (total aggregates xs)
    (λ d. total (λ ys. aggregates (map (after d) ys)) (L d))

-- A table over a domain: the domain's rows joined with the table's.
abbrev pub ScanAnswers : {V : Type 0} → (V → V → Bool) → Type 0
ScanAnswers {V} same = (n : ℕ) (ds : List (Ranked V)) (rows : List (List V))
    → IsDomain same n ds
    → Answers same ds (join_node same (λ x. []) (λ t. true_rank) ds (scanned rows))
    (λ d. scanned rows)

-- Selection over a domain.
abbrev pub SelectAnswers : {V : Type 0} → (V → V → Bool) → Type 0
SelectAnswers {V} same = (c : List V → ℕ) (ds xs : List (Ranked V)) (L : List V → List (Ranked V))
    → Answers same ds xs L
    → Answers same ds (select c xs) (λ d. select (λ t. c (d ++ t)) (L d))

-- Projection over a domain.
abbrev pub ProjectAnswers : {V : Type 0} → (V → V → Bool) → Type 0
ProjectAnswers {V} same =
    (f : List V → List V) (n : ℕ) (ds xs : List (Ranked V)) (L : List V → List (Ranked V))
    → IsDomain same n ds → Answers same ds xs L
    → Answers same ds (project (λ x. take n x ++ f x) xs) (λ d. project (λ t. f (d ++ t)) (L d))

-- The inner join over a domain, with a right side that is closed, that shares the domain, or that
-- has a domain of its own, as a lateral join has.
abbrev pub JoinAnswers : {V : Type 0} → (V → V → Bool) → Type 0
JoinAnswers {V} same =
    (null : V) (side : Side) (c : List V → ℕ) (n : ℕ) (ds xs ys : List (Ranked V))
    (L R : List V → List (Ranked V))
    → SidesAnswer same null side n ds xs ys L R
    → Answers same ds (join_node same (side_pick null side n) c xs ys)
    (λ d. join_loop (λ t. c (d ++ t)) (L d) (λ l. R (side_row null side d l)))

-- The left outer join over a domain, with the same three kinds of right side.
abbrev pub OuterAnswers : {V : Type 0} → (V → V → Bool) → Type 0
OuterAnswers {V} same =
    (null : V) (side : Side) (nulls : List V) (c : List V → ℕ) (n : ℕ) (ds xs ys : List (Ranked V))
    (L R : List V → List (Ranked V))
    → SidesAnswer same null side n ds xs ys L R
    → Answers same ds (outer_node same (side_pick null side n) nulls c xs ys)
    (λ d. outer_loop nulls (λ t. c (d ++ t)) (L d) (λ l. R (side_row null side d l)))

-- Marks and scalar values over a domain, with the same three kinds of right side. Under each domain
-- row d a left row l gets one more column: `value` of d and l, and of the rows that the right side
-- has under them.
abbrev pub AttachAnswers : {V : Type 0} → (V → V → Bool) → Type 0
AttachAnswers {V} same = (null : V) (side : Side) (value : List V → List (Ranked V) → V) (n : ℕ)
    (ds xs ys : List (Ranked V)) (L R : List V → List (Ranked V))
    → ((x : List V) → OfBag (value x)) → SidesAnswer same null side n ds xs ys L R
    → Answers same ds (attach_node same (side_pick null side n) value xs ys)
    (λ d. attach_loop (λ l. value (d ++ l)) (L d) (λ l. R (side_row null side d l)))

-- GROUP BY over a domain.
abbrev pub GroupAnswers : {V : Type 0} → (V → V → Bool) → Type 0
GroupAnswers {V} same = (grouping : List V → List V) (aggregates : List (Ranked V) → List V) (n : ℕ)
    (ds xs : List (Ranked V)) (L : List V → List (Ranked V))
    → OfBag aggregates → IsDomain same n ds → Answers same ds xs L
    → Answers same ds (group_by same (λ x. take n x ++ grouping x) aggregates xs)
    (λ d. group_by same (λ t. grouping (d ++ t)) (λ ys. aggregates (map (after d) ys)) (L d))

-- The fill gives each domain row its groups, or where it has none the empty group.
abbrev pub FillAnswers : {V : Type 0} → (V → V → Bool) → Type 0
FillAnswers {V} same =
    (empty : List V) (n : ℕ) (ds gs : List (Ranked V)) (G : List V → List (Ranked V))
    → IsDomain same n ds → Answers same ds gs G
    → Answers same ds (fill same empty ds gs) (λ d. or_else (G d) (ranked empty true_rank))

-- Aggregates without GROUP BY: the fill over groups by the domain's columns.
abbrev pub TotalAnswers : {V : Type 0} → (V → V → Bool) → Type 0
TotalAnswers {V} same =
    (aggregates : List (Ranked V) → List V) (n : ℕ) (ds xs : List (Ranked V))
    (L : List V → List (Ranked V))
    → OfBag aggregates → IsDomain same n ds → Answers same ds xs L
    → Answers same ds (fill same (aggregates []) ds (group_by same (λ x. take n x) aggregates xs))
    (λ d. total (λ ys. aggregates (map (after d) ys)) (L d))

-- A right side that has the domain's values in columns bs of its own, and asks in its WHERE that
-- they equal the domain's, needs no domain: its rows take their own values as domain columns, and
-- the equality becomes a condition on these alone.
abbrev pub LocalAnswers : {V : Type 0} → (V → V → Bool) → Type 0
LocalAnswers {V} same =
    (null : V) (bs : List ℕ) (whole c : List V → ℕ) (equal : List V → List V → ℕ) (n : ℕ)
    (ds ts : List (Ranked V))
    → IsDomain same n ds → length bs ≡ n
    → Each (λ e. Each (λ t. Equates same equal whole e.values (columns null bs t.values)) ts) ds
    → Answers same ds (local_node null bs n whole c ts)
    (λ d. select (λ t. min (equal d (columns null bs t)) (c (d ++ t))) ts)

-- DISTINCT over a domain.
abbrev pub DistinctAnswers : {V : Type 0} → (V → V → Bool) → Type 0
DistinctAnswers {V} same = (ds xs : List (Ranked V)) (L : List V → List (Ranked V))
    → Answers same ds xs L
    → Answers same ds (distinct same xs) (λ d. distinct same (L d))

-- From each row of a domain to the whole domain.
abbrev pub UnderMeets : {V : Type 0} → (V → V → Bool) → Type 0
UnderMeets {V} same =
    (n : ℕ) (D : List (List V)) (xs : List (Ranked V)) (T : List V → List (Ranked V))
    → Each (λ d. length d ≡ n) D → no_two same D ≡ true → Each (λ d. Meets same d xs (T d)) D
    → SameBag (meeting same D xs) (under D T)
