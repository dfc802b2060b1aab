-- Set operations and ANY and ALL worked out by hand over the small tables.
use Rattle.std.specs.Prelude.{◌≡◌, true, false, List, [], ◌∷◌, Ok, pos}
use Rattle.base_set_rows.specs.declared.kind.ClassKind.TheVariants.{Intersect, Except}
use Rattle.base_set_rows.specs.declared.kind.SetOperation.{SetOperation}
use Rattle.base_set_rows.specs.declared.kind.SetOperation.TheVariants.{Union, Classes}
use Rattle.expr_operators.specs.declared.operator.Comparison.{Comparison}
use Rattle.expr_operators.specs.declared.operator.Comparison.TheVariants.{Equal, Less}
use Rattle.expr_scalar.specs.declared.expr.Expr.{Expr}
use Rattle.expr_scalar.specs.declared.expr.Expr.TheVariants as e
use Rattle.base_value.specs.declared.value.Value.TheVariants.{Number}
use Rattle.base_schema.specs.declared.table.TableName.TheVariants.{Orders}
use Rattle.sql_bound_query.specs.declared.query.BoundBlock.{BoundBlock}
use Rattle.sql_bound_query.specs.declared.query.BoundBlock.TheVariants.{Plain, Distinct, Set}
use Rattle.sql_bound_query.specs.declared.query.BoundExpr.{BoundExpr}
use Rattle.sql_bound_query.specs.declared.query.BoundSource.TheVariants.{Table}
use Rattle.sql_bound_query.specs.declared.query.Input.TheVariants as input
use Rattle.sql_bound_query.specs.declared.query.SetColumn.{SetColumn}
use Rattle.sql_bound_query.specs.Answer.{answer}
use Rattle.sql_bound_query.specs.Examples.{number, small, over, always, at, statement, keys_where}
use Rattle.sql_bound_query.specs.Examples.{wholes, is_order}
use Rattle.sql_bound_query.specs.Reads.{reads}
use Rattle.sql_bound_query.specs.Typing.{EnvKinds, block_kinds, where_some, set_kinds}

-- the only column of both sides, as it is
abbrev pub as_it_is : SetColumn
as_it_is = record { left = e.Column 0; right = e.Column 0 }

-- the only column of both sides, the left one's at scale 2
abbrev pub at_two : SetColumn
at_two = record { left = e.Case 2 [] (e.Column 0); right = e.Column 0 }

-- select r_regionkey from region where r_regionkey < 2, and the same where r_regionkey = 1
abbrev pub low_and_one : SetOperation → BoundBlock
low_and_one operation =
    Set (keys_where (over (input.Column 0 0) (e.Compare Less (e.Column 0) (number 2))))
    (keys_where (over (input.Column 0 0) (e.Compare Equal (e.Column 0) (number 1))))
    (as_it_is ∷ []) operation

-- select o_orderkey from orders, and select o_totalprice from orders
abbrev pub keys_and_prices : SetOperation → BoundBlock
keys_and_prices operation =
    Set (Plain (Table Orders) always (at 0 ∷ [])) (Plain (Table Orders) always (at 3 ∷ []))
    (at_two ∷ []) operation

-- UNION ALL has the rows of both sides, UNION each once; EXCEPT ALL leaves as many as the right
-- side
-- has not; INTERSECT has what both have. Numbers of different scales meet at the larger one.
abbrev pub SetOperations : Type 0
SetOperations = (answer (statement (low_and_one Union)) small ≡ Ok (wholes (0 ∷ 1 ∷ 1 ∷ [])))
    × (answer (statement (Distinct (low_and_one Union))) small ≡ Ok (wholes (0 ∷ 1 ∷ [])))
    × (answer (statement (low_and_one (Classes Except true))) small ≡ Ok (wholes (0 ∷ [])))
    × (answer (statement (low_and_one (Classes Intersect false))) small ≡ Ok (wholes (1 ∷ [])))
    × (answer (statement (keys_and_prices Union)) small
    ≡ Ok ((Number 2 (pos 700) ∷ []) ∷ (Number 2 (pos 800) ∷ []) ∷ (Number 2 (pos 1000) ∷ [])
    ∷ (Number 2 (pos 2000) ∷ []) ∷ []))

-- r_regionkey compared with any o_custkey of orders
abbrev pub compared_with_any : Comparison → BoundExpr → Expr → BoundBlock
compared_with_any c condition marked =
    keys_where (over (input.Any c (at 0) (Plain (Table Orders) condition (at 1 ∷ []))) marked)

-- r_regionkey >= all (select o_custkey from orders) is the NOT of r_regionkey < any (..): over no
-- row ANY is False and ALL True.
abbrev pub Quantified : Type 0
Quantified = let any = e.IsMarked (e.Column 0) in let all = e.Not any in
    (answer (statement (compared_with_any Less always all)) small
    ≡ Ok (wholes (1 ∷ 2 ∷ 3 ∷ 4 ∷ [])))
    × (answer (statement (compared_with_any Equal always any)) small ≡ Ok (wholes (1 ∷ [])))
    × (answer (statement (compared_with_any Less (is_order 0) any)) small ≡ Ok [])
    × (answer (statement (compared_with_any Less (is_order 0) all)) small
    ≡ Ok (wholes (0 ∷ 1 ∷ 2 ∷ 3 ∷ 4 ∷ [])))

-- Both sides may read the rows around, and each column has one kind on both.
abbrev pub SetKinds : Type 0
SetKinds = (a b : BoundBlock) (columns : List SetColumn) (operation : SetOperation) (ks : EnvKinds)
    → block_kinds (Set a b columns operation) ks
    ≡ where_some (block_kinds a ks) (λ ls. where_some (block_kinds b ks)
    (λ rs. set_kinds columns ls rs))

-- The tables of both sides are read.
abbrev pub SetReads : Type 0
SetReads = reads (low_and_one Union) small ≡ 10
