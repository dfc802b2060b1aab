-- What a name stands for.
use Rattle.std.specs.Prelude.{ℕ, ◌+◌, ◌-◌, ◌==◌, Bool, ◌&&◌, List, [], ◌∷◌, ◌++◌, length}
use Rattle.std.specs.Prelude.{map, Option, Some, None, Ok, Err, if◌then◌else◌, nat_lt, position}
use Rattle.std.specs.List.{list_any}
use Rattle.std.specs.Str.{bytes_eq}
use Rattle.base_refusals.specs.declared.bind.BindRefusal.TheVariants.{UnknownColumn}
use Rattle.base_refusals.specs.declared.bind.BindRefusal.TheVariants.{AmbiguousColumn}
use Rattle.base_refusals.specs.declared.bind.BindRefusal.TheVariants.{NotGrouped, LateralReference}
use Rattle.sql_ast.specs.declared.words.Column.{Column}
use Rattle.sql_binder_steps.specs.declared.scope.ColumnAt.{ColumnAt}
use Rattle.sql_binder_steps.specs.declared.scope.Level.{Level}
use Rattle.sql_binder_steps.specs.declared.scope.Place.{Place}
use Rattle.sql_binder_steps.specs.declared.scope.ScopeColumn.{ScopeColumn}
use Rattle.sql_binder_steps.specs.declared.scope.Site.{Site}
use Rattle.sql_binder_steps.specs.declared.view.StatementViews.{StatementViews}
use Rattle.sql_binder_steps.specs.declared.view.View.{View}
use Rattle.sql_binder_steps.specs.Steps.{Name, Checked, and_then}

-- a query around an expression: the columns of its FROM list and, where its groups are read, the
-- places of its GROUP BY columns
pub record Around : Type 0 where
  pub columns : List ScopeColumn
  pub keys : Option (List ℕ)

-- What is in sight: the views; the queries around, from the innermost on; how many of these, from
-- the outermost, no name may use; and whether a subquery may stand here.
pub record Sight : Type 0 where
  pub views : List View
  pub levels : List Around
  pub hidden : ℕ
  pub takes_subqueries : Bool

-- a level of the code, as a query around
abbrev pub level_of : Level → Around
level_of l = record { columns = l.columns.now; keys = l.keys.now }

-- the views of a statement: its queries of WITH, then those of the session
abbrev pub statement_views : StatementViews → List View
statement_views v = v.with_queries.now ++ v.session.now

-- a site of the code, as what is in sight
abbrev pub sight_of : Site → Sight
sight_of s = record {
  views = statement_views s.views.now;
  levels = map level_of s.levels.now;
  hidden = s.hidden;
  takes_subqueries = s.takes_subqueries;
}

-- a bare name by the column's name, a qualified one by its item's
abbrev pub is_met_by : Option Name → Name → ScopeColumn → Bool
is_met_by None name c = bytes_eq c.name name
is_met_by (Some item) name c = bytes_eq c.item item

-- whether the search for a name ends at a query with this column
unfoldable pub is_met : Column → ScopeColumn → Bool
is_met wanted c = is_met_by wanted.item wanted.name c

-- The search for a bare name ends at a query that has a column of that name,
-- that for a qualified one at a query that has an item of that name.
unfoldable pub ends : Column → List ScopeColumn → Bool
ends wanted columns = list_any (is_met wanted) columns

-- whether the name may stand for this column
unfoldable pub means : Column → ScopeColumn → Bool
means wanted c = is_met wanted c && bytes_eq c.name wanted.name

-- the places and kinds of the columns that pass a test, counted on from a number
abbrev pub places : (ScopeColumn → Bool) → ℕ → List ScopeColumn → List Place
places test at [] = []
places test at (c ∷ cs) =
    if test c
    then record { at = at; kind = c.kind } ∷ places test (at + 1) cs
    else places test (at + 1) cs

-- the only one: none is UnknownColumn, two are AmbiguousColumn
abbrev pub only : List Place → Checked Place
only [] = Err UnknownColumn
only (p ∷ []) = Ok p
only (p ∷ q ∷ more) = Err AmbiguousColumn

-- the one column of a FROM list that the name means
unfoldable pub the_one : Column → List ScopeColumn → Checked Place
the_one wanted columns = only (places (means wanted) 0 columns)

-- where the groups are read, a column that is no GROUP BY column is NotGrouped
abbrev pub key_at : Option ℕ → Checked ℕ
key_at (Some key) = Ok key
key_at None = Err NotGrouped

-- the first place among the GROUP BY columns at which this column stands
unfoldable pub key_of : List ℕ → ℕ → Option ℕ
key_of keys at = position (λ k. k == at) keys

-- a column's place in a row, or, where the groups are read, among the GROUP BY columns
abbrev pub placed : Option (List ℕ) → ℕ → Checked ℕ
placed None at = Ok at
placed (Some keys) at = key_at (key_of keys at)

-- A name in the query that has it, `out` levels out; a query from `seen` on is hidden, which is
-- LateralReference.
unfoldable pub found : Column → Around → ℕ → ℕ → Checked ColumnAt
found wanted query out seen =
    and_then (the_one wanted query.columns) (λ p.
    if nat_lt out seen
    then and_then (placed query.keys p.at)
    (λ at. Ok (record { level = out; at = at; kind = p.kind }))
    else Err LateralReference)

-- in the first query at which the search ends
abbrev pub resolved_from : Column → ℕ → ℕ → List Around → Checked ColumnAt
resolved_from wanted seen out [] = Err UnknownColumn
resolved_from wanted seen out (q ∷ outer) =
    if ends wanted q.columns
    then found wanted q out seen
    else resolved_from wanted seen (out + 1) outer

-- the column that a name stands for
unfoldable pub resolved : Sight → Column → Checked ColumnAt
resolved sight wanted = resolved_from wanted (length sight.levels - sight.hidden) 0 sight.levels
