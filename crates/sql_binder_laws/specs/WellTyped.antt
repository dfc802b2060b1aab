-- What is bound is well typed.
use Rattle.std.specs.Prelude.{◌≡◌, ℕ, [], List, map, Ok, IsTrue}
use Rattle.sql_bound_query.specs.Meaning.{rows}
use Rattle.sql_bound_query.specs.Typing.{IsWellTyped, StateIsOf}
use Rattle.sql_bound_query.specs.declared.query.BoundQuery.{BoundQuery}
use Rattle.base_row_laws.specs.Bags.{Each}
use Rattle.base_row_laws.specs.Ranked.{Ranked}
use Rattle.expr_scalar.specs.Typing.{row_is_of}
use Rattle.expr_scalar.specs.declared.kind.Kind.{Kind}
use Rattle.sql_ast.specs.declared.statement.Query.{Query}
use Rattle.sql_ast.specs.declared.tree.Block.{Block}
use Rattle.base_value.specs.declared.value.Value.{Value}
use Rattle.base_schema.specs.State.{State}
use Rattle.sql_binder_steps.specs.declared.collected.BoundTable.{BoundTable}
use Rattle.sql_binder_steps.specs.declared.view.Header.{Header}
use Rattle.sql_binder_steps.specs.declared.view.View.{View}
use Rattle.sql_binder.specs.Binding.{counted_table, bound_view}
use Rattle.sql_binder.specs.Laws.{IsBound}
use Rattle.sql_binder_steps.specs.Steps.{Name}

-- the kinds of columns
abbrev pub header_kinds : List Header → List Kind
header_kinds headers = map (λ (h : Header). h.kind) headers

-- each view's query is well typed, and its columns are of the kinds that are said
abbrev pub ViewsAreTyped : List View → Type 0
ViewsAreTyped views =
    Each (λ (v : View). IsWellTyped v.block (header_kinds v.columns)) views

-- A query that is bound by itself over views that are well typed is well typed, and its columns are
-- of the kinds that are said.
abbrev pub TableIsWellTyped : Type 0
TableIsWellTyped = (q : Block) (views : List View) (t : BoundTable) (items : ℕ)
    → ViewsAreTyped views → counted_table q views ≡ Ok (t, items)
    → IsWellTyped t.block (header_kinds t.headers)

-- A view that is bound over views that are well typed is well typed, and its columns are of the
-- kinds that are said: it may stand beside the others.
abbrev pub ViewIsWellTyped : Type 0
ViewIsWellTyped = (name : Name) (names : List Name) (q : Block) (views : List View) (v : View)
    → ViewsAreTyped views → bound_view name names q views ≡ Ok v
    → IsWellTyped v.block (header_kinds v.columns)

-- A statement that is bound over views that are well typed is well typed.
abbrev pub BoundIsWellTyped : Type 0
BoundIsWellTyped = (q : Query) (views : List View) (bound : BoundQuery) → ViewsAreTyped views
    → IsBound q views bound → (ks : List Kind) × IsWellTyped bound.block ks

-- A statement that is bound keeps the kinds and scales of its columns: over tables of their kinds
-- each of its rows has values of these kinds, nulls or faults.
abbrev pub BoundKeepsKinds : Type 0
BoundKeepsKinds = (q : Query) (views : List View) (bound : BoundQuery) → ViewsAreTyped views
    → IsBound q views bound
    → (ks : List Kind) × IsWellTyped bound.block ks
    × ((state : State) → StateIsOf state
    → Each (λ (x : Ranked Value). IsTrue (row_is_of ks x.values)) (rows bound.block [] state))
