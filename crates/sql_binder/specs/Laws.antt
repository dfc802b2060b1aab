-- What binding is, in the words of names and queries.
use Rattle.std.specs.Prelude.{ℕ, ◌-◌, ◌<◌, ◌≡◌, ◌⊎◌, true, false, List, length, slice_get, Some, Ok}
use Rattle.std.specs.Prelude.{Err}
use Rattle.sql_bound_query.specs.declared.query.BoundQuery.{BoundQuery}
use Rattle.base_refusals.specs.declared.bind.BindRefusal.{BindRefusal}
use Rattle.base_refusals.specs.declared.bind.BindRefusal.TheVariants.{UnknownColumn}
use Rattle.sql_ast.specs.declared.statement.Query.{Query}
use Rattle.sql_ast.specs.declared.words.Column.{Column}
use Rattle.sql_binder_steps.specs.declared.scope.Place.{Place}
use Rattle.sql_binder_steps.specs.declared.scope.ScopeColumn.{ScopeColumn}
use Rattle.sql_binder_steps.specs.declared.view.View.{View}
use Rattle.sql_binder_steps.specs.Names.{Around, Sight, ends, means, the_one, found, resolved}
use Rattle.sql_binder.specs.Binding.{bound_query}

-- this level is the first of the queries around that has the name
pub record IsInnermost (wanted : Column) (levels : List Around) (level : ℕ) (query : Around)
    : Type 0 where
  pub there : slice_get levels level ≡ Some query
  pub has : ends wanted query.columns ≡ true
  pub inner : (k : ℕ) (other : Around) → k < level → slice_get levels k ≡ Some other
      → ends wanted other.columns ≡ false

-- no query around has the name
pub record IsNowhere (wanted : Column) (levels : List Around) : Type 0 where
  pub none : (k : ℕ) (query : Around) → slice_get levels k ≡ Some query
      → ends wanted query.columns ≡ false

-- A name is looked for in the innermost query that has it, and nowhere else; where none has it, it
-- is UnknownColumn.
abbrev pub Resolution : Type 0
Resolution = (sight : Sight) (wanted : Column)
    → ((level : ℕ) (query : Around) → IsInnermost wanted sight.levels level query
    → resolved sight wanted ≡ found wanted query level (length sight.levels - sight.hidden))
    × (IsNowhere wanted sight.levels → resolved sight wanted ≡ Err UnknownColumn)

-- The place that a name means in a query is that of the only column that it may stand for.
abbrev pub OnlyColumn : Type 0
OnlyColumn = (wanted : Column) (columns : List ScopeColumn) (p : Place) (k : ℕ) (c : ScopeColumn)
    → the_one wanted columns ≡ Ok p → slice_get columns k ≡ Some c → means wanted c ≡ true
    → k ≡ p.at

-- the query is bound so
pub record IsBound (q : Query) (views : List View) (bound : BoundQuery) : Type 0 where
  pub is : bound_query q views ≡ Ok bound

-- the query is refused for this cause, the first in the order of binding
pub record IsRefused (q : Query) (views : List View) (why : BindRefusal) : Type 0 where
  pub is : bound_query q views ≡ Err why

-- Each query is bound or refused,
abbrev pub BoundOrRefused : Type 0
BoundOrRefused = (q : Query) (views : List View)
    → ((bound : BoundQuery) × IsBound q views bound) ⊎ ((why : BindRefusal) × IsRefused q views why)

-- and not both.
abbrev pub NotBoth : Type 0
NotBoth = (q : Query) (views : List View) (bound : BoundQuery) (why : BindRefusal)
    → IsBound q views bound → IsRefused q views why → ⊥

-- Each query is bound in one way, and refused for one cause.
abbrev pub OneWay : Type 0
OneWay =
    ((q : Query) (views : List View) (a b : BoundQuery) → IsBound q views a → IsBound q views b
    → a ≡ b)
    × ((q : Query) (views : List View) (a b : BindRefusal) → IsRefused q views a
    → IsRefused q views b → a ≡ b)
