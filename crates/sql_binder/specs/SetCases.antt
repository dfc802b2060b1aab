-- Set operations, and comparisons with ANY and ALL: what they are bound to and refused for.
use Rattle.std.specs.Prelude.{◌≡◌, Bool, true, false, [], ◌∷◌, Ok, pos, codes}
use Rattle.base_refusals.specs.declared.bind.BindRefusal.TheVariants.{UnknownColumn, TypeMismatch}
use Rattle.base_refusals.specs.declared.bind.BindRefusal.TheVariants.{SetColumns, SubqueryColumns}
use Rattle.base_schema.specs.declared.table.TableName.TheVariants as table
use Rattle.base_set_rows.specs.declared.kind.ClassKind.TheVariants as class
use Rattle.base_set_rows.specs.declared.kind.SetOperation.TheVariants.{Union, Classes}
use Rattle.base_value.specs.declared.value.Value.TheVariants as value
use Rattle.expr_operators.specs.declared.operator.Comparison.TheVariants as operator
use Rattle.expr_scalar.specs.declared.expr.Expr.TheVariants as scalar
use Rattle.sql_ast.specs.declared.tree.Block.{Block}
use Rattle.sql_ast.specs.declared.tree.Block.TheVariants as block
use Rattle.sql_ast.specs.declared.tree.Expr.TheVariants as e
use Rattle.sql_ast.specs.declared.tree.SetPart.{SetPart, roll-SetPart}
use Rattle.sql_ast.specs.declared.words.Comparison.TheVariants.{GreaterOrEqual}
use Rattle.sql_ast.specs.declared.words.Quantifier.TheVariants as quantifier
use Rattle.sql_ast.specs.declared.words.SetOperator.{SetOperator}
use Rattle.sql_ast.specs.declared.words.SetOperator.TheVariants as set
use Rattle.sql_bound_query.specs.declared.query.BoundBlock.{BoundBlock}
use Rattle.sql_bound_query.specs.declared.query.BoundBlock.TheVariants as bound
use Rattle.sql_bound_query.specs.declared.query.BoundExpr.{BoundExpr}
use Rattle.sql_bound_query.specs.declared.query.BoundSource.TheVariants as source
use Rattle.sql_bound_query.specs.declared.query.Input.TheVariants as input
use Rattle.sql_bound_query.specs.declared.query.SetColumn.{SetColumn}
use Rattle.sql_binder_steps.specs.Steps.{Name}
use Rattle.sql_binder.specs.Binding.{bound_query}
use Rattle.sql_binder.specs.Examples.{named, number, item, from_table, select_from, select_where}
use Rattle.sql_binder.specs.Examples.{statement, over_region, Refuses, r_name, two_names}
use Rattle.sql_binder.specs.EdgeCases.{closed}
use Rattle.sql_binder.specs.WithCases.{plainly, nope_from_region}

-- a query behind a set operation
abbrev pub behind : SetOperator → Bool → Block → SetPart
behind op all q = roll-SetPart (record { operator = op; keeps_all = all; query = q })

-- two queries joined by a set operation
abbrev pub joined : SetOperator → Bool → Block → Block → Block
joined op all a b = block.Combined a (behind op all b ∷ [])

-- select column from table
abbrev pub column_of : Name → Name → Block
column_of column from = select_from (item (named column) ∷ []) (from_table from ∷ [])

-- `select o_orderkey from orders`
abbrev pub keys : Block
keys = column_of (codes "o_orderkey") (codes "orders")

-- `select o_totalprice from orders`
abbrev pub prices : Block
prices = column_of (codes "o_totalprice") (codes "orders")

-- `select r_name from region`
abbrev pub names : Block
names = column_of (codes "r_name") (codes "region")

-- the same bound: the column at a place of one table's row
abbrev pub bound_column : BoundExpr → BoundBlock
bound_column x = bound.Plain (source.Table table.Orders) (closed (scalar.All [])) (x ∷ [])

-- the query of keys, bound
abbrev pub bound_keys : BoundBlock
bound_keys = bound_column (record { inputs = input.Column 0 0 ∷ []; expr = scalar.Column 0 })

-- the query of prices, bound
abbrev pub bound_prices : BoundBlock
bound_prices = bound_column (record { inputs = input.Column 0 3 ∷ []; expr = scalar.Column 0 })

-- keys at the scale of prices
abbrev pub at_two : SetColumn
at_two = record { left = scalar.Case 2 [] (scalar.Column 0); right = scalar.Column 0 }

-- prices as they are, and keys at their scale
abbrev pub two_at : SetColumn
two_at = record { left = scalar.Column 0; right = scalar.Case 2 [] (scalar.Column 0) }

-- Numbers meet at the larger scale; UNION is DISTINCT of UNION ALL; a chain goes from the left.
-- `r_regionkey >= all (select o_orderkey from orders)` denies that it is less than any.
abbrev pub BoundSets : Type 0
BoundSets = (bound_query (statement (joined set.Union true keys prices)) []
    ≡ Ok (plainly (bound.Set bound_keys bound_prices (at_two ∷ []) Union)))
    × (bound_query (statement (joined set.Union false keys prices)) []
    ≡ Ok (plainly (bound.Distinct (bound.Set bound_keys bound_prices (at_two ∷ []) Union))))
    × (bound_query (statement (block.Combined keys
    (behind set.Intersect true prices ∷ behind set.Except false keys ∷ []))) []
    ≡ Ok (plainly (bound.Set
    (bound.Set bound_keys bound_prices (at_two ∷ []) (Classes class.Intersect true)) bound_keys
    (two_at ∷ []) (Classes class.Except false))))
    × (bound_query (statement (select_where (item (number 1) ∷ []) (from_table (codes "region") ∷ [])
    (e.CompareQuery GreaterOrEqual quantifier.All (named (codes "r_regionkey")) keys))) []
    ≡ Ok (plainly (bound.Plain (source.Table table.Region)
    (record {
      inputs = input.Any operator.Less
          (record { inputs = input.Column 0 0 ∷ []; expr = scalar.Column 0 }) bound_keys ∷ [];
      expr = scalar.Not (scalar.IsMarked (scalar.Column 0));
    }) (closed (scalar.Literal (value.Number 0 (pos 1))) ∷ []))))

-- The left side's refusal comes first, then the right side's, then the numbers of columns, then the
-- kinds from the left; in a chain at the second side of each operator. A comparison asks for one
-- column of a kind that fits.
abbrev pub RefusedSets : Type 0
RefusedSets = Refuses (statement (joined set.Union true nope_from_region two_names)) UnknownColumn
    × Refuses (statement (joined set.Except false two_names nope_from_region)) UnknownColumn
    × Refuses (statement (joined set.Intersect true two_names names)) SetColumns
    × Refuses (statement (joined set.Union true keys two_names)) SetColumns
    × Refuses (statement (joined set.Union false keys names)) TypeMismatch
    × Refuses (statement (block.Combined keys
    (behind set.Union true names ∷ behind set.Union true nope_from_region ∷ []))) TypeMismatch
    × Refuses (over_region (e.CompareQuery GreaterOrEqual quantifier.Any r_name two_names))
    SubqueryColumns
    × Refuses (over_region (e.CompareQuery GreaterOrEqual quantifier.All r_name keys)) TypeMismatch
    × Refuses (over_region (e.Scalar (joined set.Union true two_names two_names))) SubqueryColumns
