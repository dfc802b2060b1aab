-- Each operator gives one bag for one bag, so a plan may be run node by node.
use Rattle.std.specs.Prelude.{ℕ, List, Bool}
use Rattle.base_row_laws.specs.Ranked.{Ranked}
use Rattle.base_row_laws.specs.Bags.{SameBag, OfBag, Each}
use Rattle.base_row_laws.specs.Operators.{
  select,
  project,
  cross,
  join_node,
  outer_node,
  attach_node,
  mark_node,
  single_node,
  join_loop,
  outer_loop,
  attach_loop,
  group_by,
  total,
  distinct,
  domain_node,
  fill,
}

-- WHERE and HAVING: one bag gives one bag.
abbrev pub SelectAlike : (V : Type 0) → Type 0
SelectAlike V = (c : List V → ℕ) (xs us : List (Ranked V)) → SameBag xs us
    → SameBag (select c xs) (select c us)

-- The select list: one bag gives one bag.
abbrev pub ProjectAlike : (V : Type 0) → Type 0
ProjectAlike V = (f : List V → List V) (xs us : List (Ranked V)) → SameBag xs us
    → SameBag (project f xs) (project f us)

-- All combinations: one bag gives one bag.
abbrev pub CrossAlike : (V : Type 0) → Type 0
CrossAlike V = (xs us ys vs : List (Ranked V)) → SameBag xs us → SameBag ys vs
    → SameBag (cross xs ys) (cross us vs)

-- The inner join: one bag gives one bag.
abbrev pub JoinNodeAlike : {V : Type 0} → (V → V → Bool) → Type 0
JoinNodeAlike {V} same = (pick : List V → List V) (c : List V → ℕ) (xs us ys vs : List (Ranked V))
    → SameBag xs us → SameBag ys vs
    → SameBag (join_node same pick c xs ys) (join_node same pick c us vs)

-- The left outer join: one bag gives one bag.
abbrev pub OuterNodeAlike : {V : Type 0} → (V → V → Bool) → Type 0
OuterNodeAlike {V} same =
    (pick : List V → List V) (nulls : List V) (c : List V → ℕ) (xs us ys vs : List (Ranked V))
    → SameBag xs us → SameBag ys vs
    → SameBag (outer_node same pick nulls c xs ys) (outer_node same pick nulls c us vs)

-- A column that is a function of the bag of partners: one bag gives one bag.
abbrev pub AttachNodeAlike : {V : Type 0} → (V → V → Bool) → Type 0
AttachNodeAlike {V} same =
    (pick : List V → List V) (value : List V → List (Ranked V) → V) (xs us ys vs : List (Ranked V))
    → ((x : List V) → OfBag (value x)) → SameBag xs us → SameBag ys vs
    → SameBag (attach_node same pick value xs ys) (attach_node same pick value us vs)

-- A mark: one bag gives one bag.
abbrev pub MarkNodeAlike : {V : Type 0} → (V → V → Bool) → Type 0
MarkNodeAlike {V} same =
    (pick : List V → List V) (write : ℕ → V) (c : List V → ℕ) (xs us ys vs : List (Ranked V))
    → SameBag xs us → SameBag ys vs
    → SameBag (mark_node same pick write c xs ys) (mark_node same pick write c us vs)

-- A scalar value: one bag gives one bag. Besides matching partners, `same` witnesses that the
-- values have an identity.
abbrev pub SingleNodeAlike : {V : Type 0} → (V → V → Bool) → Type 0
SingleNodeAlike {V} same =
    (pick : List V → List V) (write : ℕ → V) (fault_rank : V → ℕ) (i : ℕ)
    (xs us ys vs : List (Ranked V))
    → SameBag xs us → SameBag ys vs
    → SameBag (single_node same pick write fault_rank i xs ys)
    (single_node same pick write fault_rank i us vs)

-- GROUP BY, where the aggregates are functions of the bag: one bag gives one bag.
abbrev pub GroupAlike : {V : Type 0} → (V → V → Bool) → Type 0
GroupAlike {V} same =
    (key : List V → List V) (aggregates : List (Ranked V) → List V) (xs us : List (Ranked V))
    → OfBag aggregates → SameBag xs us
    → SameBag (group_by same key aggregates xs) (group_by same key aggregates us)

-- Aggregates without GROUP BY: one bag gives one bag.
abbrev pub TotalAlike : (V : Type 0) → Type 0
TotalAlike V = (aggregates : List (Ranked V) → List V) (xs us : List (Ranked V))
    → OfBag aggregates → SameBag xs us
    → SameBag (total aggregates xs) (total aggregates us)

-- DISTINCT: one bag gives one bag.
abbrev pub DistinctAlike : {V : Type 0} → (V → V → Bool) → Type 0
DistinctAlike {V} same = (xs us : List (Ranked V)) → SameBag xs us
    → SameBag (distinct same xs) (distinct same us)

-- A domain: one bag gives one bag.
abbrev pub DomainNodeAlike : {V : Type 0} → (V → V → Bool) → Type 0
DomainNodeAlike {V} same = (pick : List V → List V) (xs us : List (Ranked V))
    → SameBag xs us
    → SameBag (domain_node same pick xs) (domain_node same pick us)

-- A fill: one bag gives one bag.
abbrev pub FillAlike : {V : Type 0} → (V → V → Bool) → Type 0
FillAlike {V} same = (empty : List V) (ds es gs hs : List (Ranked V))
    → SameBag ds es → SameBag gs hs
    → SameBag (fill same empty ds gs) (fill same empty es hs)

-- A join by nested loops, whose right sides are one bag under each left row that is there: one bag
-- gives one bag.
abbrev pub JoinLoopAlike : (V : Type 0) → Type 0
JoinLoopAlike V = (c : List V → ℕ) (ls ms : List (Ranked V)) (R S : List V → List (Ranked V))
    → SameBag ls ms → Each (λ l. SameBag (R l.values) (S l.values)) ls
    → SameBag (join_loop c ls R) (join_loop c ms S)

-- A left outer join by nested loops, with such right sides: one bag gives one bag.
abbrev pub OuterLoopAlike : (V : Type 0) → Type 0
OuterLoopAlike V =
    (nulls : List V) (c : List V → ℕ) (ls ms : List (Ranked V)) (R S : List V → List (Ranked V))
    → SameBag ls ms → Each (λ l. SameBag (R l.values) (S l.values)) ls
    → SameBag (outer_loop nulls c ls R) (outer_loop nulls c ms S)

-- A mark or a scalar value by nested loops, with such right sides: one bag gives one bag.
abbrev pub AttachLoopAlike : (V : Type 0) → Type 0
AttachLoopAlike V =
    (value : List V → List (Ranked V) → V) (ls ms : List (Ranked V))
    (R S : List V → List (Ranked V))
    → ((x : List V) → OfBag (value x)) → SameBag ls ms
    → Each (λ l. SameBag (R l.values) (S l.values)) ls
    → SameBag (attach_loop value ls R) (attach_loop value ms S)
