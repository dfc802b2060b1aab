-- Well-typed queries: the kinds of their columns, where all their parts fit together.
use Rattle.std.specs.Prelude.{◌≡◌, ℕ, ◌==◌, Bool, true, false, ◌&&◌, List, [], ◌∷◌, ◌++◌, length}
use Rattle.std.specs.Prelude.{map, Option, Some, None, slice_get, slice_index_or, if◌then◌else◌}
use Rattle.std.specs.Prelude.{IsTrue}
use Rattle.expr_aggregates.specs.declared.function.AggregateFunction.{AggregateFunction}
use Rattle.expr_aggregates.specs.declared.function.AggregateFunction.TheVariants.{Count}
use Rattle.expr_aggregates.specs.declared.function.AggregateFunction.TheVariants.{CountDistinct}
use Rattle.expr_aggregates.specs.declared.function.AggregateFunction.TheVariants.{Sum, Avg, Min}
use Rattle.expr_aggregates.specs.declared.function.AggregateFunction.TheVariants.{Max}
use Rattle.base_decimal.specs.Tally.{average_scale}
use Rattle.base_row_laws.specs.Bags.{Each}
use Rattle.base_row_laws.specs.Ranked.{Ranked}
use Rattle.expr_scalar.specs.declared.expr.Expr.{Expr}
use Rattle.expr_scalar.specs.declared.kind.Kind.{Kind}
use Rattle.expr_scalar.specs.declared.kind.Kind.TheVariants as kind
use Rattle.expr_scalar.specs.Typing.{Sort, row_is_of, sort_of, is_condition, comparable, same_kind}
use Rattle.expr_scalar.specs.Typing.Sort.{Unfit, Of}
use Rattle.base_value.specs.declared.value.Value.{Value}
use Rattle.base_schema.specs.declared.column.ColumnKind.{ColumnKind}
use Rattle.base_schema.specs.declared.column.ColumnKind.TheVariants as column
use Rattle.base_schema.specs.declared.table.TableName.{TableName}
use Rattle.base_schema.specs.Kinds.{RowsAreOf}
use Rattle.base_schema.specs.State.{State, table_rows}
use Rattle.base_schema.specs.Tables.{kinds_of}
use Rattle.sql_bound_query.specs.declared.query.BoundAggregate.TheOpen as node
use Rattle.sql_bound_query.specs.declared.query.BoundAggregate.TheFolds.{fold-BoundBlock}
use Rattle.sql_bound_query.specs.declared.query.BoundAggregate.TheFolds.{fold-BoundSource}
use Rattle.sql_bound_query.specs.declared.query.BoundAggregate.TheFolds.{fold-BoundExpr, fold-Input}
use Rattle.sql_bound_query.specs.declared.query.BoundAggregate.TheFolds.{fold-BoundAggregate}
use Rattle.sql_bound_query.specs.declared.query.BoundAggregate.{BoundAggregate}
use Rattle.sql_bound_query.specs.declared.query.BoundBlock.{BoundBlock}
use Rattle.sql_bound_query.specs.declared.query.BoundExpr.{BoundExpr}
use Rattle.sql_bound_query.specs.declared.query.BoundSource.{BoundSource}
use Rattle.sql_bound_query.specs.declared.query.Input.{Input}
use Rattle.sql_bound_query.specs.declared.query.SetColumn.{SetColumn}
use Rattle.sql_bound_query.specs.Meaning.{Env, rows}

-- the kind of a table's column
abbrev pub kind_of_column : ColumnKind → Kind
kind_of_column column.Key = kind.Number 0
kind_of_column column.Whole = kind.Number 0
kind_of_column column.Decimal = kind.Number 2
kind_of_column column.Date = kind.Date
kind_of_column (column.Text most) = kind.Text

-- the kinds of a table's columns
abbrev pub column_kinds : TableName → List Kind
column_kinds t = map kind_of_column (kinds_of t)

-- the kinds of the rows of the queries around, the innermost first
abbrev pub EnvKinds : Type 0
EnvKinds = List (List Kind)

-- the kind of an input or an aggregate, where its parts fit together
abbrev pub KindMeaning : Type 0
KindMeaning = EnvKinds → Option Kind

-- the kinds of the columns of a query, where its parts fit together
abbrev pub KindsMeaning : Type 0
KindsMeaning = EnvKinds → Option (List Kind)

-- the same of a source, under the kinds of the row so far and of the rows around its query
abbrev pub FromKinds : Type 0
FromKinds = List Kind → KindsMeaning

-- what an expression is
pub record ExprTyping : Type 0 where
  pub sort : EnvKinds → Sort
  pub is_condition : EnvKinds → Bool

-- goes on with what is there
abbrev pub where_some : {A B : Type 0} → Option A → (A → Option B) → Option B
where_some (Some a) f = f a
where_some None f = None

-- all, where all are there
abbrev pub all_some : {A : Type 0} → List (Option A) → Option (List A)
all_some [] = Some []
all_some (o ∷ os) = where_some o (λ a. where_some (all_some os) (λ all. Some (a ∷ all)))

-- the value, where a test passes
abbrev pub where_true : {A : Type 0} → Bool → A → Option A
where_true b a = if b then Some a else None

-- the kind of values of one kind
abbrev pub kind_of_sort : Sort → Option Kind
kind_of_sort (Of k) = Some k
kind_of_sort s = None

-- the kind of the only column
abbrev pub only_kind : List Kind → Option Kind
only_kind [] = None
only_kind (k ∷ []) = Some k
only_kind (k ∷ j ∷ ks) = None

-- an expression over the kinds of its inputs
abbrev pub sort_over : Expr → Option (List Kind) → Sort
sort_over e None = Unfit
sort_over e (Some ks) = sort_of e ks

-- a condition over the kinds of its inputs
abbrev pub is_condition_over : Expr → Option (List Kind) → Bool
is_condition_over e None = false
is_condition_over e (Some ks) = is_condition e ks

-- what an aggregate gives of its argument, whose numbers have to be of its scale
abbrev pub aggregate_sort : AggregateFunction → ℕ → Sort → Option Kind
aggregate_sort Count scale (Of k) = Some (kind.Number 0)
aggregate_sort CountDistinct scale (Of k) = Some (kind.Number 0)
aggregate_sort Sum scale (Of (kind.Number s)) = where_true (s == scale) (kind.Number s)
aggregate_sort Avg scale (Of (kind.Number s)) =
    where_true (s == scale) (kind.Number (average_scale s))
aggregate_sort Min scale (Of k) = Some k
aggregate_sort Max scale (Of k) = Some k
aggregate_sort function scale s = None

-- each input: a column's kind; a mark is a whole number; a value's kind
abbrev pub input_kind : node.Input-F KindMeaning KindsMeaning FromKinds KindMeaning ExprTyping
    → KindMeaning
input_kind (node.Column level place) ks = slice_get (slice_index_or ks level []) place
input_kind (node.Exists q) ks = where_some (q ks) (λ js. Some (kind.Number 0))
input_kind (node.Any c e q) ks =
    where_some (q ks) (λ js.
    where_some (only_kind js) (λ j. where_true (comparable (e.sort ks) (Of j)) (kind.Number 0)))
input_kind (node.Scalar q) ks = where_some (q ks) only_kind

-- an expression, over the kinds of its inputs
abbrev pub expr_typing : node.BoundExpr-F KindMeaning KindsMeaning FromKinds KindMeaning
    ExprTyping → ExprTyping
expr_typing e = record {
  sort = λ ks. sort_over e.expr (all_some (map (λ (i : KindMeaning). i ks) e.inputs));
  is_condition = λ ks. is_condition_over e.expr
      (all_some (map (λ (i : KindMeaning). i ks) e.inputs));
}

-- an aggregate, under the kinds of a row of its group
abbrev pub aggregate_kind : node.BoundAggregate-F KindMeaning KindsMeaning FromKinds KindMeaning
    ExprTyping → KindMeaning
aggregate_kind node.CountRows ks = Some (kind.Number 0)
aggregate_kind (node.Of function scale argument) ks =
    aggregate_sort function scale (argument.sort ks)

-- the columns of two sources, where the condition on them is one
abbrev pub joined_kinds : ExprTyping → EnvKinds → List Kind → List Kind → Option (List Kind)
joined_kinds on ks ls rs = where_true (on.is_condition ((ls ++ rs) ∷ ks)) (ls ++ rs)

-- Each source: a derived table reads nothing around it, a lateral item the row so far too. A right
-- side reads the left row behind the row so far, ON the joined row alone.
abbrev pub source_kinds : node.BoundSource-F KindMeaning KindsMeaning FromKinds KindMeaning
    ExprTyping → FromKinds
source_kinds (node.Table t) js ks = Some (column_kinds t)
source_kinds (node.Derived kept q) js ks = q []
source_kinds (node.Lateral q) js ks = q (js ∷ ks)
source_kinds (node.Cross a b) js ks =
    where_some (a js ks) (λ ls. where_some (b (js ++ ls) ks) (λ rs. Some (ls ++ rs)))
source_kinds (node.Inner a b on) js ks =
    where_some (a js ks) (λ ls. where_some (b (js ++ ls) ks) (λ rs. joined_kinds on ks ls rs))
source_kinds (node.Outer a b width on) js ks =
    where_some (a js ks) (λ ls.
    where_some (b (js ++ ls) ks)
    (λ rs. if width == length rs then joined_kinds on ks ls rs else None))

-- the kinds of a select list over rows of some kinds
abbrev pub listed_kinds : List ExprTyping → EnvKinds → Option (List Kind)
listed_kinds list ks = all_some (map (λ (e : ExprTyping). kind_of_sort (e.sort ks)) list)

-- the kinds of a group's row: its GROUP BY columns, then its aggregates
abbrev pub group_kinds : List ℕ → List KindMeaning → List Kind → EnvKinds → Option (List Kind)
group_kinds keys aggregates ls ks =
    where_some (all_some (map (slice_get ls) keys))
    (λ js. where_some (all_some (map (λ (a : KindMeaning). a (ls ∷ ks)) aggregates))
    (λ ms. Some (js ++ ms)))

-- the kind of a column of a set operation, of which both sides give values
abbrev pub common_kind : Sort → Sort → Option Kind
common_kind (Of j) (Of k) = where_true (same_kind j k) j
common_kind s t = None

-- the kinds of the columns of a set operation, over rows of these kinds on its sides
abbrev pub set_kinds : List SetColumn → List Kind → List Kind → Option (List Kind)
set_kinds columns ls rs =
    all_some (map (λ (c : SetColumn). common_kind (sort_of c.left ls) (sort_of c.right rs)) columns)

-- each query: its conditions are conditions, and its columns have these kinds
abbrev pub query_kinds : node.BoundBlock-F KindMeaning KindsMeaning FromKinds KindMeaning
    ExprTyping → KindsMeaning
query_kinds (node.Plain from condition list) ks =
    where_some (from [] ks) (λ ls.
    if condition.is_condition (ls ∷ ks) then listed_kinds list (ls ∷ ks) else None)
query_kinds (node.Grouped from condition keys aggregates having list) ks =
    where_some (from [] ks) (λ ls.
    if condition.is_condition (ls ∷ ks)
    then where_some (group_kinds keys aggregates ls ks)
    (λ gs. if having.is_condition (gs ∷ ks) then listed_kinds list (gs ∷ ks) else None)
    else None)
query_kinds (node.Distinct q) ks = q ks
query_kinds (node.Set a b columns operation) ks =
    where_some (a ks) (λ ls. where_some (b ks) (λ rs. set_kinds columns ls rs))

-- the kinds of a query's columns under rows of these kinds, where it is well typed
unfoldable pub block_kinds : BoundBlock → EnvKinds → Option (List Kind)
block_kinds = fold-BoundBlock KindMeaning KindsMeaning FromKinds KindMeaning ExprTyping
    aggregate_kind query_kinds source_kinds input_kind expr_typing

-- the same of a source, under a row so far of these kinds
unfoldable pub from_kinds : BoundSource → List Kind → EnvKinds → Option (List Kind)
from_kinds = fold-BoundSource KindMeaning KindsMeaning FromKinds KindMeaning ExprTyping
    aggregate_kind query_kinds source_kinds input_kind expr_typing

-- the same of an input
unfoldable pub kind_of_input : Input → EnvKinds → Option Kind
kind_of_input = fold-Input KindMeaning KindsMeaning FromKinds KindMeaning ExprTyping
    aggregate_kind query_kinds source_kinds input_kind expr_typing

-- the same of an aggregate
unfoldable pub kind_of_aggregate : BoundAggregate → EnvKinds → Option Kind
kind_of_aggregate = fold-BoundAggregate KindMeaning KindsMeaning FromKinds KindMeaning ExprTyping
    aggregate_kind query_kinds source_kinds input_kind expr_typing

-- the same of an expression
unfoldable pub typing_of : BoundExpr → ExprTyping
typing_of = fold-BoundExpr KindMeaning KindsMeaning FromKinds KindMeaning ExprTyping
    aggregate_kind query_kinds source_kinds input_kind expr_typing

-- a query that stands by itself is well typed
abbrev pub IsWellTyped : BoundBlock → List Kind → Type 0
IsWellTyped q ks = block_kinds q [] ≡ Some ks

-- each table's rows are of the table's kinds
pub record StateIsOf (state : State) : Type 0 where
  pub tables : (t : TableName) → RowsAreOf t (table_rows state t)

-- the rows around are of these kinds
abbrev pub env_is_of : EnvKinds → Env → Bool
env_is_of [] [] = true
env_is_of (ks ∷ kss) (r ∷ rs) = row_is_of ks r && env_is_of kss rs
env_is_of kss rs = false

-- A well-typed query keeps the kinds and scales of its columns:
-- over tables of their kinds and under rows of these kinds each of its rows has values of its
-- columns' kinds, nulls or faults.
abbrev pub KeepsKinds : Type 0
KeepsKinds = (q : BoundBlock) (kinds : EnvKinds) (ks : List Kind) (env : Env) (state : State)
    → StateIsOf state
    → IsTrue (env_is_of kinds env)
    → block_kinds q kinds ≡ Some ks
    → Each (λ (x : Ranked Value). IsTrue (row_is_of ks x.values)) (rows q env state)
