-- What a name stands for, in the words of the queries around.
use Rattle.std.specs.Prelude.{◌≡◌, ℕ, ◌-◌, ◌<◌, true, length, Some, Ok, slice_get}
use Rattle.sql_ast.specs.declared.words.Column.{Column}
use Rattle.sql_binder_steps.specs.declared.scope.ColumnAt.{ColumnAt}
use Rattle.sql_binder_steps.specs.declared.scope.ScopeColumn.{ScopeColumn}
use Rattle.sql_binder.specs.Laws.{IsInnermost}
use Rattle.sql_binder_steps.specs.Names.{Around, Sight, means, placed, resolved}

-- The name stands for this column: its query is the innermost around that has the name, no derived
-- table hides it, and the column is the only one there that the name means; over groups it is a
-- GROUP BY column.
pub record StandsForColumn (sight : Sight) (wanted : Column) (c : ColumnAt) : Type 0 where
  pub query : Around
  pub innermost : IsInnermost wanted sight.levels c.level query
  pub seen : c.level < length sight.levels - sight.hidden
  pub place : ℕ
  pub column : ScopeColumn
  pub there : slice_get query.columns place ≡ Some column
  pub meant : means wanted column ≡ true
  pub kind : column.kind ≡ c.kind
  pub only : (k : ℕ) (other : ScopeColumn) → slice_get query.columns k ≡ Some other
      → means wanted other ≡ true → k ≡ place
  pub at : placed query.keys place ≡ Ok c.at

-- A name that is resolved stands for the one column of the innermost query that has it.
abbrev pub NamesStand : Type 0
NamesStand = (sight : Sight) (wanted : Column) (c : ColumnAt) → resolved sight wanted ≡ Ok c
    → StandsForColumn sight wanted c
