-- How the trees of FROM's items grow: their domain rows, which begin with columns of the rows
-- around the query and of the row so far, and what stands where in them.
use Rattle.std.specs.Prelude.{◌≡◌, ℕ, suc, ◌+◌, ◌<◌, ◌||◌, List, ◌++◌, map, length, slice_index_or}
use Rattle.std.specs.Prelude.{IsTrue}
use Rattle.base_row_laws.specs.Operators.{select}
use Rattle.base_row_laws.specs.Rows.{columns}
use Rattle.base_value.specs.declared.value.Value.{Value}
use Rattle.base_value.specs.declared.value.Value.TheVariants.{Null}
use Rattle.expr_conditions.specs.Ranks.{columns_from}
use Rattle.plan_algebra.specs.Trees.{Occurrence}
use Rattle.sql_bound_query.specs.declared.query.BoundExpr.{BoundExpr}
use Rattle.sql_bound_query.specs.declared.query.BoundSource.{BoundSource}
use Rattle.sql_bound_query.specs.Meaning.{Env, holds_for, source_meaning, expr_meaning}
use Rattle.plan_kept_queries.specs.Scans.{tables_of_source, tables_of_expr}
use Rattle.plan_algebra.specs.declared.tree.DepTree.{DepTree}
use Rattle.plan_algebra.specs.declared.tree.Side.{Side}
use Rattle.plan_dependent_nodes.specs.declared.sight.OuterColumn.{OuterColumn}
use Rattle.plan_dependent_nodes.specs.Dependence.{domain_row}
use Rattle.plan_dependent_nodes.specs.Growth.{DomainRows, RowsOf, IsTreeIn, IsRightIn}
use Rattle.plan_dependent_nodes.specs.Seeks.{has, has_place, seeks_of_source, seeks_so_far}
use Rattle.plan_dependent_nodes.specs.Seeks.{seeks_of_expr}

-- a domain row of `start` columns, which begins with these columns of the rows around and then
-- these columns of the row so far p
pub record IsFromDomain (outer : List OuterColumn) (so_far : List ℕ) (start : ℕ) (p : List Value)
    (env : Env) (d : List Value) : Type 0 where
  pub gap : List Value
  pub begins : d ≡ domain_row outer env ++ (columns Null so_far p ++ gap)
  pub size : length d ≡ start

-- such domain rows
abbrev pub FromDomains : List OuterColumn → List ℕ → ℕ → List Value → DomainRows
FromDomains outer so_far start p env d = IsFromDomain outer so_far start p env d

-- The columns that such a domain row begins with, as the query of a lateral item sees them: its
-- nearest row is the row so far.
abbrev pub lateral_columns : List OuterColumn → List ℕ → List OuterColumn
lateral_columns outer so_far =
    map (λ (c : OuterColumn). record { level = suc c.level; place = c.place }) outer
    ++ map (λ (i : ℕ). record { level = 0; place = i }) so_far

-- the place of a column of the row so far of n columns with a left row behind it, in the domain row
-- with the left row after it
pub record IsRightPlace (outer : List OuterColumn) (so_far : List ℕ) (n start place at : ℕ)
    : Type 0 where
  pub reads : (env : Env) (p d l : List Value) → length p ≡ n
      → IsFromDomain outer so_far start p env d
      → slice_index_or (d ++ l) at Null ≡ slice_index_or (p ++ l) place Null

-- the places, there, of these columns of the rows around and these columns of the row so far
pub record AreRightPlaces (outer : List OuterColumn) (so_far : List ℕ) (n start : ℕ)
    (wanted : List OuterColumn) (others places : List ℕ) : Type 0 where
  pub reads : (env : Env) (p d l : List Value) → length p ≡ n
      → IsFromDomain outer so_far start p env d
      → columns Null places (d ++ l) ≡ domain_row wanted env ++ columns Null others (p ++ l)

-- a tree of an item of FROM, under each row so far of n columns
abbrev pub IsSourceTree : BoundSource → List OuterColumn → List ℕ → ℕ → ℕ → DepTree → ℕ → Type 0
IsSourceTree s outer so_far n start tree w = (p : List Value) → length p ≡ n
    → IsTreeIn (FromDomains outer so_far start p) (tables_of_source s)
    (λ state. source_meaning state s p) tree w

-- a tree of an item of FROM to the right of a left row of a columns
abbrev pub IsRightSource : BoundSource → List OuterColumn → List ℕ → ℕ → ℕ → ℕ → DepTree → Side → ℕ
    → Type 0
IsRightSource s outer so_far n start a tree side w = (p : List Value) → length p ≡ n
    → IsRightIn (FromDomains outer so_far start p) (tables_of_source s)
    (λ state l. source_meaning state s (p ++ l)) a tree side w

-- the same, of the rows that an ON condition keeps
abbrev pub IsKeptRight : BoundSource → BoundExpr → List OuterColumn → List ℕ → ℕ → ℕ → ℕ → DepTree
    → Side → ℕ → Type 0
IsKeptRight s on outer so_far n start a tree side w = (p : List Value) → length p ≡ n
    → IsRightIn (FromDomains outer so_far start p) (tables_of_source s ++ tables_of_expr on)
    (λ state l env. select (λ r. holds_for (expr_meaning state on) env (l ++ r))
    (source_meaning state s (p ++ l) env)) a tree side w

-- a tree of the rows that an ON condition keeps of those of another tree
abbrev pub IsKept : BoundExpr → List OuterColumn → List ℕ → ℕ → DepTree → ℕ → DepTree → Type 0
IsKept on outer so_far start tree w new =
    (p : List Value) (occurs : List Occurrence) (K : RowsOf)
    → IsTreeIn (FromDomains outer so_far start p) occurs K tree w
    → IsTreeIn (FromDomains outer so_far start p) (occurs ++ tables_of_expr on)
    (λ state env. select (holds_for (expr_meaning state on) env) (K state env)) new w

-- The domain of an item of FROM to the right of a left row of a columns, and of an ON condition on
-- both: the columns that they read, and then the left row.
pub record IsKeptDomain (s : BoundSource) (on : BoundExpr) (outer : List OuterColumn)
    (so_far : List ℕ) (n start a : ℕ) (wanted : List OuterColumn) (others places : List ℕ)
    (before begin end : ℕ) : Type 0 where
  pub reads : (level place : ℕ) → has wanted level place
      ≡ (seeks_of_source s level place || seeks_of_expr on (suc level) place)
  pub near : (place : ℕ) → has_place others place ≡ seeks_so_far s place
  pub first : List ℕ
  pub at : ((level place : ℕ) → IsTrue (has wanted level place) → IsTrue (has outer level place))
      → ((place : ℕ) → IsTrue (has_place others place) → place < n
      → IsTrue (has_place so_far place))
      → AreRightPlaces outer so_far n start wanted others first
  pub all : places ≡ first ++ columns_from start a
  pub begins : begin ≡ length first
  pub sum : end ≡ begin + a
  pub behind : before ≡ n + a

-- Of a tree over such a domain, `new` has the rows that an ON condition keeps.
abbrev pub KeepsRight : BoundExpr → List OuterColumn → List ℕ → List ℕ → ℕ → ℕ → ℕ → DepTree → ℕ
    → DepTree → Side → Type 0
KeepsRight on wanted others places begin end a tree w new side =
    (s : BoundSource) (outer : List OuterColumn) (so_far : List ℕ) (n start : ℕ) (first : List ℕ)
    → AreRightPlaces outer so_far n start wanted others first → begin ≡ length first
    → end ≡ begin + a → places ≡ first ++ columns_from start a
    → IsSourceTree s wanted others (n + a) end tree w
    → IsKeptRight s on outer so_far n start a new side w
