-- Well-typed parts of a query whose columns of the rows around are all at hand.
use Rattle.std.specs.Prelude.{◌≡◌, ℕ, suc, ◌+◌, ◌-◌, ◌<◌, ◌||◌, List, [], ◌∷◌, ◌++◌, length, map}
use Rattle.std.specs.Prelude.{Option, Some, IsTrue}
use Rattle.std.specs.List.{All}
use Rattle.expr_scalar.specs.declared.kind.Kind.{Kind}
use Rattle.sql_bound_query.specs.declared.query.BoundAggregate.{BoundAggregate}
use Rattle.sql_bound_query.specs.declared.query.BoundBlock.{BoundBlock}
use Rattle.sql_bound_query.specs.declared.query.BoundExpr.{BoundExpr}
use Rattle.sql_bound_query.specs.declared.query.BoundSource.{BoundSource}
use Rattle.sql_bound_query.specs.declared.query.Input.{Input}
use Rattle.sql_bound_query.specs.Typing.{EnvKinds, KindMeaning, KindsMeaning, all_some, block_kinds}
use Rattle.sql_bound_query.specs.Typing.{from_kinds}
use Rattle.sql_bound_query.specs.Typing.{kind_of_aggregate, kind_of_input}
use Rattle.plan_dependent_nodes.specs.declared.sight.OuterColumn.{OuterColumn}
use Rattle.plan_dependent_nodes.specs.Seeks.{Seeks, has, has_place, seeks_of, seeks_of_source}
use Rattle.plan_dependent_nodes.specs.Seeks.{seeks_so_far, seeks_of_input, seeks_of_expr}
use Rattle.plan_dependent_nodes.specs.Seeks.{seeks_of_aggregate}

-- A query or a FROM is well typed under some rows around, and what it reads of these is among
-- the columns at hand.
pub record IsSupplied {A : Type 0} (typing : EnvKinds → Option A) (seeks : Seeks)
    (outer : List OuterColumn) : Type 0 where
  pub around : EnvKinds
  pub kinds : A
  pub typed : typing around ≡ Some kinds
  pub there : (level place : ℕ) → IsTrue (seeks level place) → IsTrue (has outer level place)

-- The same of a part that reads the query's own row of w columns too.
pub record IsSuppliedOver {A : Type 0} (typing : EnvKinds → Option A) (seeks : Seeks)
    (outer : List OuterColumn) (w : ℕ) : Type 0 where
  pub own : List Kind
  pub around : EnvKinds
  pub kinds : A
  pub width : w ≡ length own
  pub typed : typing (own ∷ around) ≡ Some kinds
  pub there : (level place : ℕ) → IsTrue (seeks (suc level) place)
      → IsTrue (has outer level place)

-- a query
abbrev pub QueryIsSupplied : BoundBlock → List OuterColumn → Type 0
QueryIsSupplied q outer = IsSupplied (block_kinds q) (seeks_of q) outer

-- a FROM
abbrev pub FromIsSupplied : BoundSource → List OuterColumn → Type 0
FromIsSupplied s outer = IsSupplied (from_kinds s []) (seeks_of_source s) outer

-- An item of FROM is well typed under some rows around and a row so far of w columns. What it reads
-- of the rows around is among the columns at hand, and what it reads of the first n columns of the
-- row so far among these places.
pub record SourceIsSupplied (s : BoundSource) (outer : List OuterColumn) (so_far : List ℕ)
    (n w : ℕ) : Type 0 where
  pub before : List Kind
  pub around : EnvKinds
  pub kinds : List Kind
  pub width : w ≡ length before
  pub typed : from_kinds s before around ≡ Some kinds
  pub there : (level place : ℕ) → IsTrue (seeks_of_source s level place)
      → IsTrue (has outer level place)
  pub stands : (place : ℕ) → place < n → IsTrue (seeks_so_far s place)
      → IsTrue (has_place so_far place)

-- The right side of a left outer join, behind a row so far of n columns and a left row of a
-- columns, and its ON condition.
pub record JoinIsSupplied (s : BoundSource) (on : BoundExpr) (nulls : ℕ) (outer : List OuterColumn)
    (so_far : List ℕ) (n a : ℕ) : Type 0 where
  pub before : List Kind
  pub left : List Kind
  pub around : EnvKinds
  pub kinds : List Kind
  pub inputs : List Kind
  pub before_width : n ≡ length before
  pub width : a ≡ length left
  pub nulls_stand : nulls ≡ length kinds
  pub right : from_kinds s (before ++ left) around ≡ Some kinds
  pub there : (level place : ℕ) → IsTrue (seeks_of_source s level place)
      → IsTrue (has outer level place)
  pub stands : (place : ℕ) → place < n → IsTrue (seeks_so_far s place)
      → IsTrue (has_place so_far place)
  pub typed : all_some (map (λ (i : KindMeaning). i ((left ++ kinds) ∷ around))
      (map kind_of_input on.inputs)) ≡ Some inputs
  pub reads : (level place : ℕ) → IsTrue (seeks_of_expr on (suc level) place)
      → IsTrue (has outer level place)

-- a subquery of a query whose own row has w columns
abbrev pub SubqueryIsSupplied : BoundBlock → List OuterColumn → ℕ → Type 0
SubqueryIsSupplied q outer w = IsSuppliedOver (block_kinds q) (seeks_of q) outer w

-- an input
abbrev pub InputIsSupplied : Input → List OuterColumn → ℕ → Type 0
InputIsSupplied i outer w = IsSuppliedOver (kind_of_input i) (seeks_of_input i) outer w

-- inputs
abbrev pub InputsAreSupplied : List Input → List OuterColumn → ℕ → Type 0
InputsAreSupplied inputs outer w = All (λ i. InputIsSupplied i outer w) inputs

-- an expression
abbrev pub ExprIsSupplied : BoundExpr → List OuterColumn → ℕ → Type 0
ExprIsSupplied e outer w = InputsAreSupplied e.inputs outer w

-- a select list
abbrev pub ListIsSupplied : List BoundExpr → List OuterColumn → ℕ → Type 0
ListIsSupplied list outer w = All (λ e. ExprIsSupplied e outer w) list

-- an aggregate
abbrev pub AggregateIsSupplied : BoundAggregate → List OuterColumn → ℕ → Type 0
AggregateIsSupplied a outer w = IsSuppliedOver (kind_of_aggregate a) (seeks_of_aggregate a) outer w

-- aggregates
abbrev pub AggregatesAreSupplied : List BoundAggregate → List OuterColumn → ℕ → Type 0
AggregatesAreSupplied all outer w = All (λ a. AggregateIsSupplied a outer w) all

-- a column that an expression of a query sees: one of the query's own row of w columns, or one of
-- these columns of the rows around
pub record IsSeen (outer : List OuterColumn) (w level place : ℕ) : Type 0 where
  pub own : level ≡ 0 → place < w
  pub around : 0 < level → IsTrue (has outer (level - 1) place)

-- all columns of a list are seen
abbrev pub AreSeen : List OuterColumn → ℕ → List OuterColumn → Type 0
AreSeen outer w wanted = All (λ (c : OuterColumn). IsSeen outer w c.level c.place) wanted

-- as many columns as the kinds that a typing gives
pub record IsWidthOf (typing : KindsMeaning) (w : ℕ) : Type 0 where
  pub is : (around : EnvKinds) (kinds : List Kind) → typing around ≡ Some kinds
      → w ≡ length kinds

-- the same of an item of FROM, under every row so far
pub record IsSourceWidth (s : BoundSource) (w : ℕ) : Type 0 where
  pub is : (before : List Kind) (around : EnvKinds) (kinds : List Kind)
      → from_kinds s before around ≡ Some kinds → w ≡ length kinds

-- A list of columns grew by just those that a part reads, seen from `within` rows further in.
pub record Finds (seeks : Seeks) (within : ℕ) (old new : List OuterColumn) : Type 0 where
  pub grows : (level place : ℕ)
      → has new level place ≡ (has old level place || seeks (within + level) place)
