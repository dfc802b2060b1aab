-- Queries worked out by hand over small tables.
use Rattle.std.specs.Prelude.{◌≡◌, ℕ, ◌-◌, ◌^◌, List, [], ◌∷◌, Option, Some, None, Ok, Err}
use Rattle.std.specs.Prelude.{pos, codes, true}
use Rattle.expr_aggregates.specs.declared.function.AggregateFunction.TheVariants.{Sum}
use Rattle.base_order_limit.specs.declared.key.OrderKey.{OrderKey}
use Rattle.expr_operators.specs.declared.operator.Arithmetic.TheVariants.{Add, Divide}
use Rattle.expr_operators.specs.declared.operator.Comparison.TheVariants.{Equal, Greater, Less}
use Rattle.expr_scalar.specs.declared.expr.Expr.{Expr}
use Rattle.expr_scalar.specs.declared.expr.Expr.TheVariants as e
use Rattle.base_value.specs.declared.truth.Fault.TheVariants.{DivideByZero, NumberRange}
use Rattle.base_value.specs.declared.truth.Fault.TheVariants.{TooManyRows}
use Rattle.base_value.specs.declared.value.Value.{Value}
use Rattle.base_value.specs.declared.value.Value.TheVariants.{Null, Fault as Failed, Number, Text}
use Rattle.base_value.specs.declared.value.Value.TheVariants.{Date}
use Rattle.base_schema.specs.State.{State}
use Rattle.base_schema.specs.declared.table.TableName.TheVariants.{Region, Nation, Customer, Orders}
use Rattle.sql_bound_query.specs.declared.query.BoundAggregate.TheVariants.{CountRows, Of}
use Rattle.sql_bound_query.specs.declared.query.BoundBlock.{BoundBlock}
use Rattle.sql_bound_query.specs.declared.query.BoundBlock.TheVariants.{Plain, Grouped, Distinct}
use Rattle.sql_bound_query.specs.declared.query.BoundExpr.{BoundExpr}
use Rattle.sql_bound_query.specs.declared.query.BoundQuery.{BoundQuery}
use Rattle.sql_bound_query.specs.declared.query.BoundSource.TheVariants.{Table, Derived, Outer}
use Rattle.sql_bound_query.specs.declared.query.Input.{Input}
use Rattle.sql_bound_query.specs.declared.query.Input.TheVariants as input
use Rattle.sql_bound_query.specs.Answer.{answer}
use Rattle.sql_bound_query.specs.Reads.{reads}

-- a whole number
abbrev pub whole : ℕ → Value
whole n = Number 0 (pos n)

-- a whole number, written
abbrev pub number : ℕ → Expr
number n = e.Literal (whole n)

-- the region of that key
abbrev pub region : ℕ → List ℕ → List ℕ → List Value
region key name comment = whole key ∷ Text name ∷ Text comment ∷ []

-- the customer of that key
abbrev pub customer : ℕ → List ℕ → List Value
customer key name =
    whole key ∷ Text name ∷ Text (codes "a") ∷ whole 0 ∷ Text (codes "p") ∷ Number 2 (pos 0)
    ∷ Text (codes "B") ∷ Text (codes "c") ∷ []

-- an order of customer 1
abbrev pub order_seven : List Value
order_seven =
    whole 7 ∷ whole 1 ∷ Text (codes "O") ∷ Number 2 (pos 1000) ∷ Date 19960102
    ∷ Text (codes "1-URGENT") ∷ Text (codes "K") ∷ whole 0 ∷ Text (codes "x") ∷ []

-- another order of customer 1
abbrev pub order_eight : List Value
order_eight =
    whole 8 ∷ whole 1 ∷ Text (codes "F") ∷ Number 2 (pos 2000) ∷ Date 19960103
    ∷ Text (codes "5-LOW") ∷ Text (codes "K") ∷ whole 0 ∷ Text (codes "y") ∷ []

-- five regions, two customers, two orders, and nothing else
abbrev pub small : State
small = record {
  region = region 0 (codes "AFRICA") (codes "a") ∷ region 1 (codes "AMERICA") (codes "b")
      ∷ region 2 (codes "ASIA") (codes "c")
      ∷ region 3 (codes "EUROPE") (codes "d") ∷ region 4 (codes "MIDDLE EAST") (codes "e") ∷ [];
  nation = [];
  part = [];
  supplier = [];
  partsupp = [];
  customer = customer 1 (codes "C1") ∷ customer 2 (codes "C2") ∷ [];
  orders = order_seven ∷ order_eight ∷ [];
  lineitem = [];
}

-- an expression that reads nothing
abbrev pub closed : Expr → BoundExpr
closed x = record { inputs = []; expr = x }

-- an expression over one input
abbrev pub over : Input → Expr → BoundExpr
over i x = record { inputs = i ∷ []; expr = x }

-- an expression over two inputs
abbrev pub over_two : Input → Input → Expr → BoundExpr
over_two i j x = record { inputs = i ∷ j ∷ []; expr = x }

-- no condition
abbrev pub always : BoundExpr
always = closed (e.All [])

-- the column at a place of the innermost row
abbrev pub at : ℕ → BoundExpr
at place = over (input.Column 0 place) (e.Column 0)

-- the first input equals the second
abbrev pub equal_inputs : Expr
equal_inputs = e.Compare Equal (e.Column 0) (e.Column 1)

-- a statement without order and limit
abbrev pub statement : BoundBlock → BoundQuery
statement q = record { block = q; order = []; limit = None }

-- rows of one whole number each
abbrev pub wholes : List ℕ → List (List Value)
wholes [] = []
wholes (n ∷ ns) = (whole n ∷ []) ∷ wholes ns

-- 1 / 0 = 1
abbrev pub zero_divides : Expr
zero_divides = e.Compare Equal
    (e.Arithmetic (number 1) (record { operator = Divide; operand = number 0 } ∷ [])) (number 1)

-- select r_regionkey from region where ..
abbrev pub keys_where : BoundExpr → BoundBlock
keys_where condition = Plain (Table Region) condition (at 0 ∷ [])

-- 1 = 0 and 1 / 0 = 1
abbrev pub false_first : BoundExpr
false_first = closed (e.All (e.Compare Equal (number 1) (number 0) ∷ zero_divides ∷ []))

-- r_regionkey > 2 and (1 / 0 = 1 or 1 = 1)
abbrev pub above_two : BoundExpr
above_two = over (input.Column 0 0)
    (e.All (e.Compare Greater (e.Column 0) (number 2)
    ∷ e.Any (zero_divides ∷ e.Compare Equal (number 1) (number 1) ∷ []) ∷ []))

-- A fault counts only where it decides: a row that is dropped raises none, and neither does a table
-- without rows.
abbrev pub FaultsOfConditions : Type 0
FaultsOfConditions = (answer (statement (keys_where false_first)) small ≡ Ok [])
    × (answer (statement (keys_where above_two)) small ≡ Ok (wholes (3 ∷ 4 ∷ [])))
    × (answer (statement (keys_where (closed zero_divides))) small ≡ Err (Failed DivideByZero))
    × (answer (statement (Plain (Table Nation) (closed zero_divides) (at 0 ∷ []))) small ≡ Ok [])

-- 2^127 - 1, the largest coefficient
abbrev pub largest : ℕ
largest = 2 ^ 127 - 1

-- the sum of one expression over the regions below a key
abbrev pub sum_below : ℕ → Expr → BoundBlock
sum_below key x =
    Grouped (Table Region) (over (input.Column 0 0) (e.Compare Less (e.Column 0) (number key))) []
    (Of Sum 0 (over (input.Column 0 0) x) ∷ []) always (at 0 ∷ [])

-- case when r_regionkey = 0 then the largest else -1 end
abbrev pub largest_and_less : Expr
largest_and_less = e.Case 0
    (record { when = e.Compare Equal (e.Column 0) (number 0); gives = number largest } ∷ [])
    (e.Negative (number 1))

-- case when r_regionkey = 0 then the largest when r_regionkey = 1 then 1 else -1 end
abbrev pub largest_and_more : Expr
largest_and_more = e.Case 0
    (record { when = e.Compare Equal (e.Column 0) (number 0); gives = number largest }
    ∷ record { when = e.Compare Equal (e.Column 0) (number 1); gives = number 1 } ∷ [])
    (e.Negative (number 1))

-- The largest number and 1 have no sum, the largest and -1 have one, and the largest, 1 and -1 have
-- none.
abbrev pub SumsAtTheEnd : Type 0
SumsAtTheEnd = (answer (statement
    (Plain (Table Region) always
    (closed (e.Arithmetic (number largest) (record { operator = Add; operand = number 1 } ∷ []))
    ∷ []))) small ≡ Err (Failed NumberRange))
    × (answer (statement (sum_below 2 largest_and_less)) small ≡ Ok (wholes ((largest - 1) ∷ [])))
    × (answer (statement (sum_below 3 largest_and_more)) small ≡ Err (Failed NumberRange))

-- select count(*) from orders where the order's column at that place equals the outer row's column
-- at another
abbrev pub orders_counted : ℕ → ℕ → BoundBlock
orders_counted place outer =
    Grouped (Table Orders) (over_two (input.Column 0 place) (input.Column 1 outer) equal_inputs) []
    (CountRows ∷ []) always (at 0 ∷ [])

-- select c_custkey, (select count(*) from orders where o_custkey = c_custkey) from customer
abbrev pub orders_of_each : BoundBlock
orders_of_each = Plain (Table Customer) always
    (at 0 ∷ over (input.Scalar (orders_counted 1 0)) (e.Column 0) ∷ [])

-- select c_custkey, o_orderkey as k from customer left outer join orders on o_custkey = c_custkey
abbrev pub customers_and_orders : BoundBlock
customers_and_orders =
    Plain (Outer (Table Customer) (Table Orders) 9
    (over_two (input.Column 0 9) (input.Column 0 0) equal_inputs)) always (at 0 ∷ at 8 ∷ [])

-- select k, (select count(*) from orders where o_orderkey = k) from (..) as t, where (..) is the
-- kept view of a number or none
abbrev pub count_for_null_of : Option ℕ → BoundBlock
count_for_null_of kept = Plain (Derived kept customers_and_orders) always
    (at 1 ∷ over (input.Scalar (orders_counted 0 1)) (e.Column 0) ∷ [])

abbrev pub count_for_null : BoundBlock
count_for_null = count_for_null_of None

-- A count over no rows is 0, and a null outer value meets no row. A kept view means what its query
-- does.
abbrev pub Counts : Type 0
Counts = (answer (statement orders_of_each) small
    ≡ Ok ((whole 1 ∷ whole 2 ∷ []) ∷ (whole 2 ∷ whole 0 ∷ []) ∷ []))
    × (answer (statement count_for_null) small
    ≡ Ok ((whole 7 ∷ whole 1 ∷ []) ∷ (whole 8 ∷ whole 1 ∷ []) ∷ (Null ∷ whole 0 ∷ []) ∷ []))
    × (answer (statement (count_for_null_of (Some 1))) small
    ≡ Ok ((whole 7 ∷ whole 1 ∷ []) ∷ (whole 8 ∷ whole 1 ∷ []) ∷ (Null ∷ whole 0 ∷ []) ∷ []))

-- select case when o_orderkey = 7 then 9 end from orders where ..
abbrev pub nine_or_null : BoundExpr → BoundBlock
nine_or_null condition =
    Plain (Table Orders) condition
    (over (input.Column 0 0)
    (e.Case 0 (record { when = e.Compare Equal (e.Column 0) (number 7); gives = number 9 } ∷ [])
    (e.Literal Null)) ∷ [])

-- o_orderkey = n
abbrev pub is_order : ℕ → BoundExpr
is_order n = over (input.Column 0 0) (e.Compare Equal (e.Column 0) (number n))

-- select r_regionkey from region where r_regionkey not in (..)
abbrev pub not_among : BoundBlock → BoundBlock
not_among q = keys_where (over (input.Any Equal (at 0) q) (e.Not (e.IsMarked (e.Column 0))))

-- NOT IN over a null is never True; over no null and over no row it is.
abbrev pub NotIn : Type 0
NotIn = (answer (statement (not_among (nine_or_null always))) small ≡ Ok [])
    × (answer (statement (not_among (nine_or_null (is_order 7)))) small
    ≡ Ok (wholes (0 ∷ 1 ∷ 2 ∷ 3 ∷ 4 ∷ [])))
    × (answer (statement (not_among (nine_or_null (is_order 0)))) small
    ≡ Ok (wholes (0 ∷ 1 ∷ 2 ∷ 3 ∷ 4 ∷ [])))

-- select o_orderkey from orders where o_custkey = c_custkey
abbrev pub keys_of_orders : BoundBlock
keys_of_orders = Plain (Table Orders) (over_two (input.Column 0 1) (input.Column 1 0) equal_inputs)
    (at 0 ∷ [])

-- 7 = (select o_orderkey from orders where o_custkey = c_custkey)
abbrev pub seven_is : ℕ → Expr
seven_is i = e.Compare Equal (number 7) (e.Column i)

-- A scalar subquery of two rows is a fault, but where another condition drops the row.
abbrev pub ScalarSubqueries : Type 0
ScalarSubqueries = (answer
    (statement (Plain (Table Customer)
    (over_two (input.Column 0 0) (input.Scalar keys_of_orders)
    (e.All (e.Compare Equal (e.Column 0) (number 2) ∷ seven_is 1 ∷ []))) (at 0 ∷ [])))
    small
    ≡ Ok [])
    × (answer (statement (Plain (Table Customer) (over (input.Scalar keys_of_orders) (seven_is 0))
    (at 0 ∷ []))) small ≡ Err (Failed TooManyRows))

-- select * from region where r_regionkey + c_custkey = 1 and o_orderkey = 8
abbrev pub region_of : BoundBlock
region_of =
    Plain (Table Region)
    (record {
      inputs = input.Column 0 0 ∷ input.Column 2 0 ∷ input.Column 1 0 ∷ [];
      expr = e.All (e.Compare Equal
          (e.Arithmetic (e.Column 0) (record { operator = Add; operand = e.Column 1 } ∷ []))
          (number 1) ∷ e.Compare Equal (e.Column 2) (number 8) ∷ []);
    })
    (at 0 ∷ at 1 ∷ at 2 ∷ [])

-- select * from orders where o_custkey = c_custkey and exists (..)
abbrev pub order_with_region : BoundBlock
order_with_region =
    Plain (Table Orders)
    (record {
      inputs = input.Column 0 1 ∷ input.Column 1 0 ∷ input.Exists region_of ∷ [];
      expr = e.All (equal_inputs ∷ e.IsMarked (e.Column 2) ∷ []);
    })
    (at 0 ∷ [])

-- select c_custkey from customer where exists (..)
abbrev pub two_levels : BoundBlock
two_levels = Plain (Table Customer)
    (over (input.Exists order_with_region) (e.IsMarked (e.Column 0))) (at 0 ∷ [])

-- A subquery in a subquery reads the rows of both queries around it.
abbrev pub NestedExists : Type 0
NestedExists = answer (statement two_levels) small ≡ Ok (wholes (1 ∷ []))

-- descending by the only column
abbrev pub downwards : OrderKey
downwards = record { column = 0; is_descending = true }

-- Order, row limit and DISTINCT: nulls first when descending; the limit after the order; a fault
-- before the limit.
abbrev pub Finished : Type 0
Finished = (answer (record { block = keys_where always; order = downwards ∷ []; limit = Some 2 })
    small ≡ Ok (wholes (4 ∷ 3 ∷ [])))
    × (answer (record { block = nine_or_null always; order = downwards ∷ []; limit = None }) small
    ≡ Ok ((Null ∷ []) ∷ wholes (9 ∷ [])))
    × (answer (statement (Distinct (Plain (Table Orders) always (at 1 ∷ [])))) small
    ≡ Ok (wholes (1 ∷ [])))
    × (answer (record { block = keys_where (closed zero_divides); order = []; limit = Some 0 })
    small ≡ Err (Failed DivideByZero))

-- Each table that stands in a query is read once, in subqueries too.
abbrev pub Reading : Type 0
Reading = (reads two_levels small ≡ 9) × (reads orders_of_each small ≡ 4)
    × (reads count_for_null small ≡ 6)
