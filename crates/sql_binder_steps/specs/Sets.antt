-- Set operations of bound queries, and comparisons with any or all values of one.
use Rattle.std.specs.Prelude.{ℕ, ◌+◌, ◌==◌, Bool, true, false, List, [], ◌∷◌, ◌++◌, length, Ok, Err}
use Rattle.std.specs.Prelude.{if◌then◌else◌}
use Rattle.base_refusals.specs.declared.bind.BindRefusal.TheVariants.{SetColumns as SetColumnsRefused}
use Rattle.base_set_rows.specs.declared.kind.ClassKind.TheVariants as class
use Rattle.base_set_rows.specs.declared.kind.SetOperation.TheVariants.{Union, Classes}
use Rattle.expr_operators.specs.declared.operator.Comparison.{Comparison}
use Rattle.expr_scalar.specs.declared.expr.Expr.{Expr}
use Rattle.expr_scalar.specs.declared.expr.Expr.TheVariants as e
use Rattle.expr_scalar.specs.declared.kind.Kind.{Kind}
use Rattle.sql_ast.specs.declared.words.Comparison.{Comparison as Compared}
use Rattle.sql_ast.specs.declared.words.Comparison.TheVariants as written
use Rattle.sql_ast.specs.declared.words.Quantifier.{Quantifier}
use Rattle.sql_ast.specs.declared.words.Quantifier.TheVariants as quantifier
use Rattle.sql_ast.specs.declared.words.SetOperator.{SetOperator}
use Rattle.sql_ast.specs.declared.words.SetOperator.TheVariants as operator
use Rattle.sql_bound_query.specs.declared.query.BoundBlock.{BoundBlock}
use Rattle.sql_bound_query.specs.declared.query.BoundBlock.TheVariants as block
use Rattle.sql_bound_query.specs.declared.query.Input.TheVariants as input
use Rattle.sql_bound_query.specs.declared.query.SetColumn.{SetColumn}
use Rattle.sql_binder_steps.specs.declared.collected.BoundKind.TheVariants.{Value, Condition}
use Rattle.sql_binder_steps.specs.declared.collected.BoundTable.{BoundTable}
use Rattle.sql_binder_steps.specs.declared.collected.Part.{Part}
use Rattle.sql_binder_steps.specs.declared.collected.Typed.{Typed}
use Rattle.sql_binder_steps.specs.declared.sets.SetColumns.{SetColumns}
use Rattle.sql_binder_steps.specs.declared.view.Header.{Header}
use Rattle.sql_binder_steps.specs.Steps.{Checked, and_then, Binding, ◌>>=◌, pure, lift}
use Rattle.sql_binder_steps.specs.Steps as steps
use Rattle.sql_binder_steps.specs.Names.{Sight}
use Rattle.sql_binder_steps.specs.Kinds.{common_kind, scale_of}
use Rattle.sql_binder_steps.specs.Values.{typed, comparison_of}
use Rattle.sql_binder_steps.specs.Parts.{mark, member, place_of}

-- a side's column at a place, at the scale of the set operation's
abbrev pub rescaled : ℕ → Kind → Kind → Expr
rescaled at own whole =
    if scale_of own == scale_of whole then e.Column at else e.Case (scale_of whole) [] (e.Column at)

-- the column of both sides at a place, of these kinds, as one of that kind
abbrev pub set_column : ℕ → Kind → Kind → Kind → SetColumn
set_column at left right whole = record {
  left = rescaled at left whole;
  right = rescaled at right whole;
}

-- one column more: its name is the left side's
abbrev pub with_column : SetColumns → ℕ → Header → Header → Kind → SetColumns
with_column done at left right whole = record {
  columns = done.columns ++ set_column at left.kind right.kind whole ∷ [];
  headers = done.headers ++ record { name = left.name; kind = whole } ∷ [];
}

-- the columns of both sides from a place on: the kinds have to fit, numbers have the larger scale
abbrev pub columns_from : SetColumns → ℕ → List Header → List Header → Checked SetColumns
columns_from done at [] rs = Ok done
columns_from done at (l ∷ ls) [] = Ok done
columns_from done at (l ∷ ls) (r ∷ rs) =
    and_then (common_kind (Value l.kind ∷ Value r.kind ∷ []))
    (λ k. columns_from (with_column done at l r k) (at + 1) ls rs)

-- the columns of both sides
unfoldable pub set_columns : List Header → List Header → Checked SetColumns
set_columns ls rs = columns_from (record { columns = []; headers = [] }) 0 ls rs

-- UNION is the different rows of UNION ALL
abbrev pub set_block : SetOperator → Bool → BoundBlock → BoundBlock → List SetColumn → BoundBlock
set_block operator.Union true a b columns = block.Set a b columns Union
set_block operator.Union false a b columns = block.Distinct (block.Set a b columns Union)
set_block operator.Intersect all a b columns = block.Set a b columns (Classes class.Intersect all)
set_block operator.Except all a b columns = block.Set a b columns (Classes class.Except all)

-- two queries of equally many columns, else SetColumns
unfoldable pub set_table : SetOperator → Bool → BoundTable → BoundTable → Checked BoundTable
set_table op all a b =
    if length a.headers == length b.headers
    then and_then (set_columns a.headers b.headers) (λ c. Ok (record {
      block = set_block op all a.block b.block c.columns;
      headers = c.headers;
    }))
    else Err SetColumnsRefused

-- ---- ANY and ALL

-- the comparison that is true where another is false
abbrev pub contrary : Compared → Compared
contrary written.Equal = written.NotEqual
contrary written.NotEqual = written.Equal
contrary written.Less = written.GreaterOrEqual
contrary written.LessOrEqual = written.Greater
contrary written.Greater = written.LessOrEqual
contrary written.GreaterOrEqual = written.Less

-- ALL asks whether any value meets the contrary
abbrev pub asked : Quantifier → Compared → Comparison
asked quantifier.Any c = comparison_of c
asked quantifier.All c = comparison_of (contrary c)

-- and denies it
abbrev pub quantified : Quantifier → Typed → Typed
quantified quantifier.Any m = m
quantified quantifier.All m = typed (e.Not m.value) Condition

-- a comparison with any or all values of a subquery of one column: a mark beside the row
unfoldable pub comparing : Sight → Compared → Quantifier → Part → BoundTable → Binding Typed
comparing sight c q left t = do
  _ ← lift (member left.kind t.headers)
  _ ← lift (place_of sight)
  k ← steps.input (input.Any (asked q c) left.expr t.block)
  pure (quantified q (mark k))
