-- The steps of binding that go into no part of the tree: columns, aggregates, subqueries, FROM
-- items, select lists.
use Rattle.std.specs.Prelude.{ℕ, ◌+◌, Bool, true, false, ◌&&◌, ◌||◌, ◌==◌, List, [], ◌∷◌, ◌++◌}
use Rattle.std.specs.Prelude.{length, map, Option, Some, None, is_some, Ok, Err}
use Rattle.std.specs.Prelude.{if◌then◌else◌, nat_lt}
use Rattle.std.specs.List.{list_any}
use Rattle.std.specs.Str.{bytes_eq}
use Rattle.expr_aggregates.specs.declared.function.AggregateFunction.{AggregateFunction}
use Rattle.expr_aggregates.specs.declared.function.AggregateFunction.TheVariants as function
use Rattle.sql_bound_query.specs.declared.query.BoundAggregate.{BoundAggregate}
use Rattle.sql_bound_query.specs.declared.query.BoundAggregate.TheVariants as aggregate
use Rattle.sql_bound_query.specs.declared.query.BoundBlock.TheVariants as block
use Rattle.sql_bound_query.specs.declared.query.BoundExpr.{BoundExpr}
use Rattle.sql_bound_query.specs.declared.query.BoundSource.{BoundSource}
use Rattle.sql_bound_query.specs.declared.query.BoundSource.TheVariants as source
use Rattle.sql_bound_query.specs.declared.query.Input.{Input}
use Rattle.sql_bound_query.specs.declared.query.Input.TheVariants as input
use Rattle.sql_bound_query.specs.Typing.{kind_of_column}
use Rattle.base_order_limit.specs.declared.key.OrderKey.{OrderKey}
use Rattle.base_refusals.specs.declared.bind.BindRefusal.TheVariants.{UnknownTable, UnknownColumn}
use Rattle.base_refusals.specs.declared.bind.BindRefusal.TheVariants.{AmbiguousColumn}
use Rattle.base_refusals.specs.declared.bind.BindRefusal.TheVariants.{DuplicateAlias}
use Rattle.base_refusals.specs.declared.bind.BindRefusal.TheVariants.{TypeMismatch, NestedAggregate}
use Rattle.base_refusals.specs.declared.bind.BindRefusal.TheVariants.{OuterAggregate}
use Rattle.base_refusals.specs.declared.bind.BindRefusal.TheVariants.{SubqueryColumns}
use Rattle.base_refusals.specs.declared.bind.BindRefusal.TheVariants.{SubqueryPlace}
use Rattle.expr_operators.specs.declared.operator.Comparison.TheVariants.{Equal}
use Rattle.expr_scalar.specs.declared.expr.Expr.TheVariants as e
use Rattle.expr_scalar.specs.declared.kind.Kind.{Kind}
use Rattle.sql_ast.specs.declared.statement.NamedKey.{NamedKey}
use Rattle.sql_ast.specs.declared.words.Aggregate.{Aggregate}
use Rattle.sql_ast.specs.declared.words.Aggregate.TheVariants as named
use Rattle.sql_ast.specs.declared.words.Column.{Column}
use Rattle.sql_ast.specs.declared.words.JoinKind.{JoinKind}
use Rattle.sql_ast.specs.declared.words.JoinKind.TheVariants.{Inner, LeftOuter}
use Rattle.base_schema.specs.declared.table.TableName.{TableName}
use Rattle.base_schema.specs.declared.column.ColumnKind.{ColumnKind}
use Rattle.base_schema.specs.Tables.{table_of, column_names_of, kinds_of}
use Rattle.sql_binder_steps.specs.declared.collected.BoundKind.{BoundKind}
use Rattle.sql_binder_steps.specs.declared.collected.BoundKind.TheVariants.{Value, Condition}
use Rattle.sql_binder_steps.specs.declared.collected.BoundTable.{BoundTable}
use Rattle.sql_binder_steps.specs.declared.collected.FromRows.{FromRows}
use Rattle.sql_binder_steps.specs.declared.collected.Part.{Part}
use Rattle.sql_binder_steps.specs.declared.collected.Shown.{Shown}
use Rattle.sql_binder_steps.specs.declared.collected.Typed.{Typed}
use Rattle.sql_binder_steps.specs.declared.from.Joining.{Joining}
use Rattle.sql_binder_steps.specs.declared.from.NamedItem.{NamedItem}
use Rattle.sql_binder_steps.specs.declared.scope.ScopeColumn.{ScopeColumn}
use Rattle.sql_binder_steps.specs.declared.view.Header.{Header}
use Rattle.sql_binder_steps.specs.declared.view.View.{View}
use Rattle.sql_binder_steps.specs.Steps.{Name, Checked, and_then, Binding, ◌>>=◌, pure, refuse}
use Rattle.sql_binder_steps.specs.Steps.{lift}
use Rattle.sql_binder_steps.specs.Steps.{input, aggregate, counted, take_aggregates}
use Rattle.sql_binder_steps.specs.Names.{Around, Sight, resolved, the_one, placed}
use Rattle.sql_binder_steps.specs.Kinds.{where_fit, is_condition, fits, aggregate_kind}
use Rattle.sql_binder_steps.specs.Kinds.{argument_scale}
use Rattle.sql_binder_steps.specs.Values.{typed}

-- ---- columns

-- a column, as an input of the clause
unfoldable pub column : Sight → Column → Binding Typed
column sight wanted = do
  c ← lift (resolved sight wanted)
  k ← input (input.Column c.level c.at)
  pure (typed (e.Column k) (Value c.kind))

-- over a FROM list, or the part of it to the left of a lateral item; where they are given, over its
-- groups
unfoldable pub inside : Sight → List ScopeColumn → Option (List ℕ) → Sight
inside sight columns keys =
    record sight {
      levels = record { columns = columns; keys = keys } ∷ sight.levels;
      takes_subqueries = true;
    }

-- over the rows of a join, in ON
unfoldable pub within_on : Sight → List ScopeColumn → Sight
within_on sight columns =
    record sight {
      levels = record { columns = columns; keys = None } ∷ sight.levels;
      takes_subqueries = true;
    }

-- the sight of a derived table, which may use no name around it: neither of what stands left of it
-- nor of the queries around
unfoldable pub hiding : Sight → List ScopeColumn → Sight
hiding sight left = record {
  views = sight.views;
  levels = record { columns = left; keys = None } ∷ sight.levels;
  hidden = length sight.levels + 1;
  takes_subqueries = true;
}

-- the sight of a whole statement
abbrev pub outermost : List View → Sight
outermost views = record { views = views; levels = []; hidden = 0; takes_subqueries = true }

-- ---- aggregates

-- the innermost query's rows in the place of its groups
abbrev pub rows_of : List Around → List Around
rows_of [] = []
rows_of (q ∷ outer) = record q { keys = None } ∷ outer

-- the sight of an aggregate's argument: the rows of the groups, and no subquery
unfoldable pub among_rows : Sight → Sight
among_rows sight = record sight { levels = rows_of sight.levels; takes_subqueries = false }

-- the GROUP BY columns of the innermost query, where its groups are read
abbrev pub keys_by : List Around → Option (List ℕ)
keys_by [] = None
keys_by (q ∷ outer) = q.keys

-- a column of a query further out
abbrev pub is_outer : Input → Bool
is_outer (input.Column level at) = nat_lt 0 level
is_outer i = false

-- whether the argument has one
abbrev pub any_outer : List Input → Bool
any_outer = list_any is_outer

-- one aggregate more; in a group's row the GROUP BY columns come first. Elsewhere than over groups
-- it is NestedAggregate.
abbrev pub grouped_by : Option (List ℕ) → BoundAggregate → Kind → Binding Typed
grouped_by None a k = refuse NestedAggregate
grouped_by (Some keys) a k = do
  j ← aggregate a
  i ← input (input.Column 0 (length keys + j))
  pure (typed (e.Column i) (Value k))

-- count(*)
unfoldable pub grouped : Sight → BoundAggregate → Kind → Binding Typed
grouped sight a k = grouped_by (keys_by sight.levels) a k

-- whether groups are read here
abbrev pub reads_groups : Sight → Bool
reads_groups sight = is_some (keys_by sight.levels)

-- an aggregate of an argument: TypeMismatch, NestedAggregate, OuterAggregate in this order
unfoldable pub aggregated : Sight → AggregateFunction → Part → Binding Typed
aggregated sight f p =
    lift (aggregate_kind f p.kind) >>=
    (λ k. if reads_groups sight && any_outer p.expr.inputs then refuse OuterAggregate
    else grouped sight (aggregate.Of f (argument_scale p.kind) p.expr) k)

-- the functions by their names
abbrev pub function_of : Aggregate → AggregateFunction
function_of named.Sum = function.Sum
function_of named.Avg = function.Avg
function_of named.Min = function.Min
function_of named.Max = function.Max

-- ---- subqueries

-- a mark, read as a condition
abbrev pub mark : ℕ → Typed
mark k = typed (e.IsMarked (e.Column k)) Condition

-- in an aggregate's argument a subquery is SubqueryPlace
abbrev pub place_of : Sight → Checked (Unit {0})
place_of sight = if sight.takes_subqueries then Ok tt else Err SubqueryPlace

-- the kind of the only column: else SubqueryColumns
abbrev pub single : List Header → Checked Kind
single [] = Err SubqueryColumns
single (h ∷ []) = Ok h.kind
single (h ∷ g ∷ more) = Err SubqueryColumns

-- what IN looks for fits the only column
unfoldable pub member : BoundKind → List Header → Checked (Unit {0})
member left headers = and_then (single headers) (λ k. where_fit (fits left (Value k)) tt)

-- EXISTS: a mark beside the row
unfoldable pub existing : Sight → BoundTable → Binding Typed
existing sight t = do
  _ ← lift (place_of sight)
  k ← input (input.Exists t.block)
  pure (mark k)

-- IN over a subquery of one column: a mark beside the row
unfoldable pub containing : Sight → Part → BoundTable → Binding Typed
containing sight left t = do
  _ ← lift (member left.kind t.headers)
  _ ← lift (place_of sight)
  k ← input (input.Any Equal left.expr t.block)
  pure (mark k)

-- a scalar subquery: the value of its one column, as an input
unfoldable pub only_value : Sight → BoundTable → Binding Typed
only_value sight t = do
  kind ← lift (single t.headers)
  _ ← lift (place_of sight)
  k ← input (input.Scalar t.block)
  pure (typed (e.Column k) (Value kind))

-- ---- FROM

-- a column of a table
abbrev pub schema_header : Name → ColumnKind → Header
schema_header name k = record { name = name; kind = kind_of_column k }

-- names with kinds
abbrev pub schema_headers : List Name → List ColumnKind → List Header
schema_headers [] kinds = []
schema_headers (n ∷ names) [] = []
schema_headers (n ∷ names) (k ∷ kinds) = schema_header n k ∷ schema_headers names kinds

-- the columns of a table
unfoldable pub table_headers : TableName → List Header
table_headers t = schema_headers (column_names_of t) (kinds_of t)

-- a table
abbrev pub table_item : TableName → NamedItem
table_item t = record { source = source.Table t; headers = table_headers t; items = 1 }

-- a view: itself and the items of its query
abbrev pub view_item : View → NamedItem
view_item v = record {
  source = source.Derived v.kept v.block;
  headers = v.columns;
  items = v.items + 1;
}

-- the first view of that name
abbrev pub view_named : Name → List View → Option NamedItem
view_named name [] = None
view_named name (v ∷ views) =
    if bytes_eq v.name name then Some (view_item v) else view_named name views

-- a view where there is one, else a table of the schema
abbrev pub view_or_table : Option NamedItem → Option TableName → Checked NamedItem
view_or_table (Some i) t = Ok i
view_or_table None (Some t) = Ok (table_item t)
view_or_table None None = Err UnknownTable

-- What a FROM name stands for. The queries of WITH are the first views, so they hide others and
-- tables; no view of a session has the name of a table.
unfoldable pub named_item : Name → List View → Checked NamedItem
named_item name views = view_or_table (view_named name views) (table_of name)

-- an item to the left has that name
abbrev pub is_item : List ScopeColumn → Name → Bool
is_item left alias = list_any (λ (c : ScopeColumn). bytes_eq c.item alias) left

-- no item to the left has that name: else DuplicateAlias
unfoldable pub unused : List ScopeColumn → Name → Checked (Unit {0})
unused left alias = if is_item left alias then Err DuplicateAlias else Ok tt

-- a column of an item of FROM
unfoldable pub column_of : Name → Header → ScopeColumn
column_of item h = record { item = item; name = h.name; kind = h.kind }

-- an item of FROM with its columns
abbrev pub item_rows : BoundSource → Name → List Header → FromRows
item_rows s alias headers = record { source = s; columns = map (column_of alias) headers }

-- a name stands in a list
abbrev pub stands_in : Name → List Name → Bool
stands_in name names = list_any (λ m. bytes_eq m name) names

-- two names of a list are equal
abbrev pub has_twice : List Name → Bool
has_twice [] = false
has_twice (n ∷ names) = stands_in n names || has_twice names

-- columns under other names
abbrev pub under_names : List Name → List Header → List Header
under_names [] headers = []
under_names (n ∷ names) [] = []
under_names (n ∷ names) (h ∷ headers) = record { name = n; kind = h.kind }
    ∷ under_names names headers

-- a column list of another length is SubqueryColumns; where none stands the names stay
unfoldable pub renamed_headers : List Name → List Header → Checked (List Header)
renamed_headers [] headers = Ok headers
renamed_headers (n ∷ names) headers =
    if length (n ∷ names) == length headers
    then Ok (under_names (n ∷ names) headers)
    else Err SubqueryColumns

-- equal names of a column list are DuplicateAlias
unfoldable pub distinct_names : List Name → Checked (Unit {0})
distinct_names names = if has_twice names then Err DuplicateAlias else Ok tt

-- the column list of a derived table or a lateral item, which stands after its query
unfoldable pub listed_headers : List Name → List Header → Checked (List Header)
listed_headers names headers =
    and_then (distinct_names names) (λ done. renamed_headers names headers)

-- a name of WITH after those of its queries before: an equal one is DuplicateAlias
abbrev pub new_name : Name → List View → Checked (Unit {0})
new_name name done =
    if list_any (λ (v : View). bytes_eq v.name name) done then Err DuplicateAlias else Ok tt

-- a table or a view as an item of FROM: UnknownTable, TooManyTables, DuplicateAlias in this order
unfoldable pub table_rows : Sight → Name → Name → List ScopeColumn → Binding FromRows
table_rows sight name alias left = do
  found ← lift (named_item name sight.views)
  _ ← counted found.items
  _ ← lift (unused left alias)
  pure (item_rows found.source alias found.headers)

-- a query as an item of FROM, once it is bound: its alias, then its column list
unfoldable pub named_rows : BoundSource → List Header → Name → List Name → List ScopeColumn
    → Checked FromRows
named_rows s headers alias names left =
    and_then (unused left alias)
    (λ free. and_then (listed_headers names headers)
    (λ listed. Ok (item_rows s alias listed)))

-- a derived table
abbrev pub derived_rows : BoundTable → Name → List Name → List ScopeColumn → Checked FromRows
derived_rows t alias names left =
    named_rows (source.Derived None t.block) t.headers alias names left

-- a lateral item
abbrev pub lateral_rows : BoundTable → Name → List Name → List ScopeColumn → Checked FromRows
lateral_rows t alias names left = named_rows (source.Lateral t.block) t.headers alias names left

-- the columns so far
abbrev pub columns_so_far : Option FromRows → List ScopeColumn
columns_so_far None = []
columns_so_far (Some f) = f.columns

-- what stands before a comma, and the first item after it: its rows alone, with the columns of all
-- so far
unfoldable pub first_rows : Option FromRows → FromRows → Option BoundSource × FromRows
first_rows None o = (None, o)
first_rows (Some f) o = (
  Some f.source,
  record { source = o.source; columns = f.columns ++ o.columns },
)

-- what stands after a comma, with what stands before it
unfoldable pub crossed : Option BoundSource → FromRows → FromRows
crossed None f = f
crossed (Some left) f = record { source = source.Cross left f.source; columns = f.columns }

-- an item that is to be joined to those before it: its number of columns, and the columns of all so
-- far
unfoldable pub joining : FromRows → FromRows → Joining
joining done o = record {
  left = done.source;
  right = o.source;
  width = length o.columns;
  columns = done.columns ++ o.columns;
}

-- a join's rows
abbrev pub join_source : JoinKind → Joining → BoundExpr → BoundSource
join_source Inner j on = source.Inner j.left j.right on
join_source LeftOuter j on = source.Outer j.left j.right j.width on

-- a join
unfoldable pub joined_rows : JoinKind → Joining → BoundExpr → FromRows
joined_rows k j on = record { source = join_source k j on; columns = j.columns }

-- a FROM list of no items, which no script has, is UnknownTable
unfoldable pub present : Option FromRows → Checked FromRows
present None = Err UnknownTable
present (Some f) = Ok f

-- ---- conditions and lists

-- the condition that always holds
abbrev pub no_condition : BoundExpr
no_condition = record { inputs = []; expr = e.All [] }

-- a condition
unfoldable pub holding : Part → Checked BoundExpr
holding p = where_fit (is_condition p.kind) p.expr

-- one column more of a select list
abbrev pub listed : Shown → BoundExpr → Name → Kind → Shown
listed done expr name k =
    record {
      list = done.list ++ expr ∷ [];
      headers = done.headers ++ record { name = name; kind = k } ∷ [];
    }

-- a column of that kind more; a condition is TypeMismatch
abbrev pub shown_by : Shown → BoundExpr → Name → BoundKind → Checked Shown
shown_by done expr name (Value k) = Ok (listed done expr name k)
shown_by done expr name Condition = Err TypeMismatch

-- a bound expression as one column more
unfoldable pub shown_part : Shown → Name → Part → Checked Shown
shown_part done name p = shown_by done p.expr name p.kind

-- no columns
abbrev pub nothing_shown : Shown
nothing_shown = record { list = []; headers = [] }

-- the column at a place of the innermost row
abbrev pub one_column : ℕ → BoundExpr
one_column at = record { inputs = input.Column 0 at ∷ []; expr = e.Column 0 }

-- the columns of `*` from a place on
abbrev pub star_from : Option (List ℕ) → Shown → ℕ → List ScopeColumn → Checked Shown
star_from keys done at [] = Ok done
star_from keys done at (c ∷ cs) =
    and_then (placed keys at)
    (λ k. star_from keys (listed done (one_column k) c.name c.kind) (at + 1) cs)

-- `*`: all columns
unfoldable pub star : Option (List ℕ) → List ScopeColumn → Checked Shown
star keys columns = star_from keys nothing_shown 0 columns

-- the places of GROUP BY columns
abbrev pub keys_from : List ScopeColumn → List ℕ → List Column → Checked (List ℕ)
keys_from columns done [] = Ok done
keys_from columns done (n ∷ ns) =
    and_then (the_one n columns) (λ p. keys_from columns (done ++ p.at ∷ []) ns)

-- GROUP BY: each name is the one column of the query's own FROM list
unfoldable pub keys_of : List ScopeColumn → List Column → Checked (List ℕ)
keys_of columns group = keys_from columns [] group

-- ---- whole queries

-- a query without groups
unfoldable pub plain : FromRows → BoundExpr → Shown → BoundTable
plain from kept shown = record {
  block = block.Plain from.source kept shown.list;
  headers = shown.headers;
}

-- a query with groups, once all its aggregates are known
unfoldable pub closing : FromRows → BoundExpr → List ℕ → Shown → BoundExpr → Binding BoundTable
closing from kept keys shown having = do
  all ← take_aggregates
  pure (record {
    block = block.Grouped from.source kept keys all having shown.list;
    headers = shown.headers;
  })

-- DISTINCT
unfoldable pub once_each : Bool → BoundTable → BoundTable
once_each true t = record { block = block.Distinct t.block; headers = t.headers }
once_each false t = t

-- the places of the output columns of that name, counted on from a number
abbrev pub output_places : Name → ℕ → List Header → List ℕ
output_places name at [] = []
output_places name at (h ∷ hs) =
    if bytes_eq h.name name
    then at ∷ output_places name (at + 1) hs
    else output_places name (at + 1) hs

-- the only one
abbrev pub only_place : List ℕ → Checked ℕ
only_place [] = Err UnknownColumn
only_place (p ∷ []) = Ok p
only_place (p ∷ q ∷ more) = Err AmbiguousColumn

-- the place of the one output column of a name: UnknownColumn for none, AmbiguousColumn for several
unfoldable pub output_place : Name → List Header → Checked ℕ
output_place name headers = only_place (output_places name 0 headers)

-- keys of ORDER BY, each the one output column of its name
abbrev pub order_from : List Header → List OrderKey → List NamedKey → Checked (List OrderKey)
order_from headers done [] = Ok done
order_from headers done (k ∷ ks) =
    and_then (output_place k.column headers)
    (λ p. order_from headers (done ++ record { column = p; is_descending = k.is_descending } ∷ [])
    ks)

-- the keys of ORDER BY, bound to output columns
unfoldable pub order_of : List Header → List NamedKey → Checked (List OrderKey)
order_of headers order = order_from headers [] order
