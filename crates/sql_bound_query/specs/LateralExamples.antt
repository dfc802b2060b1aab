-- Queries with lateral items worked out by hand over the small tables.
use Rattle.std.specs.Prelude.{◌≡◌, List, [], ◌∷◌, None, Ok}
use Rattle.expr_operators.specs.declared.operator.Arithmetic.TheVariants.{Add}
use Rattle.expr_operators.specs.declared.operator.Comparison.TheVariants.{Equal, Greater}
use Rattle.expr_scalar.specs.declared.expr.Expr.TheVariants as e
use Rattle.expr_scalar.specs.declared.kind.Kind.{Kind}
use Rattle.base_value.specs.declared.value.Value.TheVariants.{Null}
use Rattle.base_schema.specs.declared.table.TableName.TheVariants.{Region, Customer, Orders}
use Rattle.sql_bound_query.specs.declared.query.BoundAggregate.TheVariants.{CountRows}
use Rattle.sql_bound_query.specs.declared.query.BoundBlock.{BoundBlock}
use Rattle.sql_bound_query.specs.declared.query.BoundBlock.TheVariants.{Plain, Grouped}
use Rattle.sql_bound_query.specs.declared.query.BoundExpr.{BoundExpr}
use Rattle.sql_bound_query.specs.declared.query.BoundSource.TheVariants.{Table, Derived, Lateral}
use Rattle.sql_bound_query.specs.declared.query.BoundSource.TheVariants.{Cross, Inner, Outer}
use Rattle.sql_bound_query.specs.declared.query.Input.TheVariants as input
use Rattle.sql_bound_query.specs.Answer.{answer}
use Rattle.sql_bound_query.specs.Examples.{whole, number, small, over, over_two, always, at}
use Rattle.sql_bound_query.specs.Examples.{equal_inputs, statement, orders_counted, keys_of_orders}
use Rattle.sql_bound_query.specs.Reads.{reads}
use Rattle.sql_bound_query.specs.Typing.{EnvKinds, block_kinds, from_kinds}

-- select c_custkey, n
-- from customer, lateral (select count(*) as n from orders where o_custkey = c_custkey) as t
abbrev pub counted_beside : BoundBlock
counted_beside =
    Plain (Cross (Table Customer) (Lateral (orders_counted 1 0))) always (at 0 ∷ at 8 ∷ [])

-- k > 7, of the columns of customer and k
abbrev pub above_seven : BoundExpr
above_seven = over (input.Column 0 8) (e.Compare Greater (e.Column 0) (number 7))

-- select c_custkey, k
-- from customer left join
-- lateral (select o_orderkey as k from orders where o_custkey = c_custkey) as t on k > 7
abbrev pub later_orders : BoundBlock
later_orders = Plain (Outer (Table Customer) (Lateral keys_of_orders) 1 above_seven) always
    (at 0 ∷ at 8 ∷ [])

-- select o_orderkey as k from orders where o_custkey = c_custkey and o_orderkey = r_regionkey + 7,
-- where a region stands before the customer in the row so far
abbrev pub order_of_region : BoundBlock
order_of_region =
    Plain (Table Orders)
    (record {
      inputs = input.Column 0 1 ∷ input.Column 1 3 ∷ input.Column 0 0 ∷ input.Column 1 0 ∷ [];
      expr = e.All (equal_inputs ∷ e.Compare Equal (e.Column 2)
          (e.Arithmetic (e.Column 3) (record { operator = Add; operand = number 7 } ∷ [])) ∷ []);
    })
    (at 0 ∷ [])

-- select r_regionkey, k from region, customer join lateral (..) as t on that always holds
abbrev pub orders_of_regions : BoundBlock
orders_of_regions =
    Plain (Cross (Table Region) (Inner (Table Customer) (Lateral order_of_region) always)) always
    (at 0 ∷ at 11 ∷ [])

-- select count(*) from lateral (select o_orderkey from orders where o_custkey = c_custkey) as t,
-- where the customer is the row around this query
abbrev pub counted_first : BoundBlock
counted_first =
    Grouped
    (Lateral (Plain (Table Orders) (over_two (input.Column 0 1) (input.Column 2 0) equal_inputs)
    (at 0 ∷ []))) always [] (CountRows ∷ []) always (at 0 ∷ [])

-- select c_custkey, (..) from customer
abbrev pub counted_within : BoundBlock
counted_within = Plain (Table Customer) always
    (at 0 ∷ over (input.Scalar counted_first) (e.Column 0) ∷ [])

-- A lateral item is taken anew for each row so far; in a left outer join a left row without rows
-- stays, with nulls. The row so far has what stands before the comma too, and that of a first item
-- has no columns.
abbrev pub LateralItems : Type 0
LateralItems = (answer (statement counted_beside) small
    ≡ Ok ((whole 1 ∷ whole 2 ∷ []) ∷ (whole 2 ∷ whole 0 ∷ []) ∷ []))
    × (answer (statement later_orders) small
    ≡ Ok ((whole 1 ∷ whole 8 ∷ []) ∷ (whole 2 ∷ Null ∷ []) ∷ []))
    × (answer (statement orders_of_regions) small
    ≡ Ok ((whole 0 ∷ whole 7 ∷ []) ∷ (whole 1 ∷ whole 8 ∷ []) ∷ []))
    × (answer (statement counted_within) small
    ≡ Ok ((whole 1 ∷ whole 2 ∷ []) ∷ (whole 2 ∷ whole 0 ∷ []) ∷ []))

-- A lateral item may read the row so far and the rows around, a derived table none of them.
abbrev pub LateralKinds : Type 0
LateralKinds = (q : BoundBlock) (js : List Kind) (ks : EnvKinds)
    → (from_kinds (Lateral q) js ks ≡ block_kinds q (js ∷ ks))
    × (from_kinds (Derived None q) js ks ≡ block_kinds q [])

-- A lateral item reads its tables once, however many rows stand to its left.
abbrev pub LateralReads : Type 0
LateralReads = reads counted_beside small ≡ 4
