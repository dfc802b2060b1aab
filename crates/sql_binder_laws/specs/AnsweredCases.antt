-- Statements over small tables, bound and then answered.
use Rattle.std.specs.Prelude.{◌≡◌, ℕ, ◌-◌, List, [], ◌∷◌, None, Result, Ok, Err, pos, negsuc}
use Rattle.std.specs.Prelude.{codes, true, false}
use Rattle.sql_bound_query.specs.Answer.{answer}
use Rattle.sql_bound_query.specs.Examples.{small, whole, wholes, largest}
use Rattle.sql_ast.specs.declared.statement.Query.{Query}
use Rattle.sql_ast.specs.declared.tree.Block.{Block}
use Rattle.sql_ast.specs.declared.tree.Block.TheVariants as block
use Rattle.sql_ast.specs.declared.tree.Select.{roll-Select}
use Rattle.sql_ast.specs.declared.tree.Clause.TheVariants.{Absent, Condition}
use Rattle.sql_ast.specs.declared.tree.Expr.{Expr}
use Rattle.sql_ast.specs.declared.tree.Expr.TheVariants as e
use Rattle.sql_ast.specs.declared.tree.FromItem.{FromItem}
use Rattle.sql_ast.specs.declared.tree.FromItem.TheVariants.{Table, Derived, Lateral}
use Rattle.sql_ast.specs.declared.tree.Joined.{Joined, roll-Joined}
use Rattle.sql_ast.specs.declared.tree.Selected.TheVariants.{All, Items}
use Rattle.sql_ast.specs.declared.words.Aggregate.TheVariants.{Sum, Avg}
use Rattle.sql_ast.specs.declared.words.Comparison.TheVariants as compared
use Rattle.sql_ast.specs.declared.words.JoinKind.TheVariants.{LeftOuter}
use Rattle.sql_ast.specs.declared.words.Multiplying.TheVariants.{Times, Divide}
use Rattle.sql_ast.specs.declared.words.Span.TheVariants.{Year}
use Rattle.base_value.specs.declared.truth.Fault.{Fault}
use Rattle.base_value.specs.declared.truth.Fault.TheVariants.{DivideByZero, NumberRange}
use Rattle.base_value.specs.declared.truth.Fault.TheVariants.{TooManyRows}
use Rattle.base_value.specs.declared.value.Value.{Value}
use Rattle.base_value.specs.declared.value.Value.TheVariants.{Null, Fault as Failed, Number, Text}
use Rattle.base_value.specs.declared.value.Value.TheVariants.{Date}
use Rattle.base_schema.specs.State.{State}
use Rattle.sql_binder_steps.specs.Steps.{Name, Checked, and_then}
use Rattle.sql_binder.specs.Binding.{bound_query}
use Rattle.sql_binder.specs.Examples.{named, number, plus, minus, item, from_table, from_derived}
use Rattle.sql_binder.specs.Examples.{select_from, select_where, statement, r_name}
use Rattle.sql_binder.specs.EdgeCases.{date, end_of_february, ninety_days_before, equal, is_africa}
use Rattle.sql_binder.specs.EdgeCases.{join_on}
use Rattle.sql_binder_laws.specs.Settled.{with_alias}

-- what a statement is answered with over a state, where it is bound without views
abbrev pub answer_over : State → Query → Checked (Result (List (List Value)) Value)
answer_over state q = and_then (bound_query q []) (λ bound. Ok (answer bound state))

-- over the small tables it has these rows
abbrev pub HasRows : Query → List (List Value) → Type 0
HasRows q rows = answer_over small q ≡ Ok (Ok rows)

-- over the small tables it has this fault
abbrev pub HasFault : Query → Fault → Type 0
HasFault q fault = answer_over small q ≡ Ok (Err (Failed fault))

-- r_regionkey
abbrev pub r_regionkey : Expr
r_regionkey = named (codes "r_regionkey")

-- a / b
abbrev pub divided_by : Expr → Expr → Expr
divided_by a b = e.Product a (record { operator = Divide; value = b } ∷ [])

-- select r_regionkey from region where ..
abbrev pub keys_of_regions : Expr → Query
keys_of_regions x = statement
    (select_where (item r_regionkey ∷ []) (from_table (codes "region") ∷ []) x)

-- r_regionkey < 2
abbrev pub is_first_or_second : Expr
is_first_or_second = e.Compare compared.Less r_regionkey (number 2)

-- `select r_name from region where r_regionkey < 2`,
-- `select 2 / 3, -2 / 3, 'a|b\c' from region where r_regionkey = 0`,
-- `select date '1996-01-31' + interval '1' month, date('1998-12-01') - interval '90' day (3) ..`,
-- `select count(*) from orders`
abbrev pub PlainStatements : Type 0
PlainStatements = HasRows (statement
    (select_where (item r_name ∷ []) (from_table (codes "region") ∷ []) is_first_or_second))
    ((Text (codes "AFRICA") ∷ []) ∷ (Text (codes "AMERICA") ∷ []) ∷ [])
    × HasRows (statement
    (select_where
    (item (divided_by (number 2) (number 3)) ∷ item (divided_by (e.Negative (number 2)) (number 3))
    ∷ item (e.Text (codes "a|b\\c")) ∷ []) (from_table (codes "region") ∷ []) is_africa))
    ((Number 6 (pos 666667) ∷ Number 6 (negsuc 666666) ∷ Text (codes "a|b\\c") ∷ []) ∷ [])
    × HasRows (statement
    (select_where (item end_of_february ∷ item ninety_days_before ∷ [])
    (from_table (codes "region") ∷ []) is_africa)) ((Date 19960229 ∷ Date 19980902 ∷ []) ∷ [])
    × HasRows (statement (select_from (item e.CountRows ∷ []) (from_table (codes "orders") ∷ [])))
    (wholes (2 ∷ []))

-- a supplier with a balance in hundredths
abbrev pub supplier : ℕ → ℕ → List Value
supplier suppkey balance = whole suppkey ∷ Text (codes "S") ∷ Text (codes "a") ∷ whole 0
    ∷ Text (codes "p") ∷ Number 2 (pos balance) ∷ Text (codes "c") ∷ []

-- the small tables with balances of 1.00, 1.00 and 2.00
abbrev pub with_suppliers : State
with_suppliers = record small { supplier = supplier 1 100 ∷ supplier 2 100 ∷ supplier 3 200 ∷ [] }

-- s_acctbal
abbrev pub s_acctbal : Expr
s_acctbal = named (codes "s_acctbal")

-- `select avg(s_acctbal) from supplier`, `select distinct s_acctbal from supplier`
abbrev pub Balances : Type 0
Balances = (answer_over with_suppliers (statement
    (select_from (item (e.Aggregate Avg s_acctbal) ∷ []) (from_table (codes "supplier") ∷ [])))
    ≡ Ok (Ok ((Number 6 (pos 1333333) ∷ []) ∷ [])))
    × (answer_over with_suppliers (statement (block.Select (roll-Select (record {
      is_distinct = true;
      selected = Items (item s_acctbal ∷ []);
      from = from_table (codes "supplier") ∷ [];
      condition = Absent;
      group = [];
      having = Absent;
    })))) ≡ Ok (Ok ((Number 2 (pos 100) ∷ []) ∷ (Number 2 (pos 200) ∷ []) ∷ [])))

-- 1 / 0 = 1
abbrev pub divides_by_zero : Expr
divides_by_zero = equal (divided_by (number 1) (number 0)) (number 1)

-- `.. where 1 = 0 and 1 / 0 = 1`, `.. where r_regionkey > 2 and (1 / 0 = 1 or 1 = 1)`,
-- `.. where 1 / 0 = 1`, over region and over nation, which is empty
abbrev pub DividedConditions : Type 0
DividedConditions = HasRows
    (keys_of_regions (e.And (equal (number 1) (number 0)) (divides_by_zero ∷ []))) []
    × HasRows (keys_of_regions
    (e.And (e.Compare compared.Greater r_regionkey (number 2))
    (e.Or divides_by_zero (equal (number 1) (number 1) ∷ []) ∷ []))) (wholes (3 ∷ 4 ∷ []))
    × HasFault (keys_of_regions divides_by_zero) DivideByZero
    × HasRows (statement
    (select_where (item (named (codes "n_nationkey")) ∷ []) (from_table (codes "nation") ∷ [])
    divides_by_zero)) []

-- the largest number, written
abbrev pub largest_number : Expr
largest_number = e.Number (pos largest) 0

-- select sum(x) from region where r_regionkey < n
abbrev pub sum_of_regions : Expr → ℕ → Query
sum_of_regions x n = statement
    (select_where (item (e.Aggregate Sum x) ∷ []) (from_table (codes "region") ∷ [])
    (e.Compare compared.Less r_regionkey (number n)))

-- The largest number and 1; the largest and -1; the largest, 1 and -1.
abbrev pub SumsOfLargest : Type 0
SumsOfLargest = HasFault
    (statement
    (select_from (item (e.Sum largest_number (plus (number 1) ∷ [])) ∷ [])
    (from_table (codes "region") ∷ []))) NumberRange
    × HasRows (sum_of_regions
    (e.CaseElse (record { condition = is_africa; value = largest_number } ∷ [])
    (e.Negative (number 1))) 2) (wholes ((largest - 1) ∷ []))
    × HasFault (sum_of_regions
    (e.CaseElse (record { condition = is_africa; value = largest_number }
    ∷ record { condition = equal r_regionkey (number 1); value = number 1 } ∷ [])
    (e.Negative (number 1))) 3) NumberRange

-- c_custkey
abbrev pub c_custkey : Expr
c_custkey = named (codes "c_custkey")

-- o_orderkey
abbrev pub o_orderkey : Expr
o_orderkey = named (codes "o_orderkey")

-- o_custkey = c_custkey
abbrev pub is_of_customer : Expr
is_of_customer = equal (named (codes "o_custkey")) c_custkey

-- select items from orders where ..
abbrev pub orders_where : Expr → Expr → Block
orders_where shown x = select_where (item shown ∷ []) (from_table (codes "orders") ∷ []) x

-- customer left outer join orders on ..
abbrev pub customers_joined_on : Expr → Joined
customers_joined_on x = roll-Joined (record {
  first = Table (codes "customer") None;
  joins = record { kind = LeftOuter; item = Table (codes "orders") None; condition = x } ∷ [];
})

-- select c_custkey, o_orderkey as k from customer left outer join orders on o_custkey = c_custkey
abbrev pub orders_or_null : Block
orders_or_null = select_from (item c_custkey ∷ with_alias o_orderkey (codes "k") ∷ [])
    (customers_joined_on is_of_customer ∷ [])

-- `select c_custkey, (select count(*) from orders where o_custkey = c_custkey) from customer`,
-- `select k, (select count(*) from orders where o_orderkey = k) from (orders_or_null) as t`
abbrev pub CountsOfOrders : Type 0
CountsOfOrders = HasRows
    (statement
    (select_from (item c_custkey ∷ item (e.Scalar (orders_where e.CountRows is_of_customer)) ∷ [])
    (from_table (codes "customer") ∷ [])))
    ((whole 1 ∷ whole 2 ∷ []) ∷ (whole 2 ∷ whole 0 ∷ []) ∷ [])
    × HasRows (statement
    (select_from
    (item (named (codes "k"))
    ∷ item (e.Scalar (orders_where e.CountRows (equal o_orderkey (named (codes "k"))))) ∷ [])
    (from_derived orders_or_null (codes "t") ∷ [])))
    ((whole 7 ∷ whole 1 ∷ []) ∷ (whole 8 ∷ whole 1 ∷ []) ∷ (Null ∷ whole 0 ∷ []) ∷ [])

-- case when o_orderkey = 7 then 9 end
abbrev pub nine_of_seven : Expr
nine_of_seven = e.Case (record { condition = equal o_orderkey (number 7); value = number 9 } ∷ [])

-- select r_regionkey from region where r_regionkey not in (..)
abbrev pub keys_not_in : Block → Query
keys_not_in q = keys_of_regions (e.Not (e.InQuery r_regionkey q))

-- NOT IN the nines of the orders, of order 7, of no order
abbrev pub KeysNotIn : Type 0
KeysNotIn = HasRows
    (keys_not_in (select_from (item nine_of_seven ∷ []) (from_table (codes "orders") ∷ []))) []
    × HasRows (keys_not_in (orders_where nine_of_seven (equal o_orderkey (number 7))))
    (wholes (0 ∷ 1 ∷ 2 ∷ 3 ∷ 4 ∷ []))
    × HasRows (keys_not_in (orders_where nine_of_seven (equal o_orderkey (number 0))))
    (wholes (0 ∷ 1 ∷ 2 ∷ 3 ∷ 4 ∷ []))

-- select c_custkey from customer where ..
abbrev pub customers_where : Expr → Query
customers_where x = statement
    (select_where (item c_custkey ∷ []) (from_table (codes "customer") ∷ []) x)

-- 7 = (select o_orderkey from orders where o_custkey = c_custkey)
abbrev pub seven_is_the_order : Expr
seven_is_the_order = equal (number 7) (e.Scalar (orders_where o_orderkey is_of_customer))

-- `.. where c_custkey = 2 and 7 = (..)`, `.. where 7 = (..)`
abbrev pub OneOrder : Type 0
OneOrder = HasRows (customers_where (e.And (equal c_custkey (number 2)) (seven_is_the_order ∷ [])))
    []
    × HasFault (customers_where seven_is_the_order) TooManyRows

-- select * from .. where ..
abbrev pub all_where : Name → Expr → Block
all_where table x = block.Select (roll-Select (record {
  is_distinct = false;
  selected = All;
  from = from_table table ∷ [];
  condition = Condition x;
  group = [];
  having = Absent;
}))

-- select * from region where r_regionkey + c_custkey = 1 and o_orderkey = 8
abbrev pub region_of_order : Block
region_of_order = all_where (codes "region")
    (e.And (equal (e.Sum r_regionkey (plus c_custkey ∷ [])) (number 1))
    (equal o_orderkey (number 8) ∷ []))

-- `.. where exists (select * from orders where o_custkey = c_custkey and exists (..))`
abbrev pub RegionsOfOrders : Type 0
RegionsOfOrders = HasRows
    (customers_where
    (e.Exists (all_where (codes "orders")
    (e.And is_of_customer (e.Exists region_of_order ∷ []))))) (wholes (1 ∷ []))

-- r_regionkey + o_orderkey = 11 + c_custkey
abbrev pub is_sum_of_both : Expr
is_sum_of_both = equal (e.Sum r_regionkey (plus o_orderkey ∷ []))
    (e.Sum (number 11) (plus c_custkey ∷ []))

-- select c_custkey, o_orderkey from ..
abbrev pub pairs_from : Joined → Query
pairs_from from = statement (select_from (item c_custkey ∷ item o_orderkey ∷ []) (from ∷ []))

-- customer join orders on ..
abbrev pub customers_with_orders : Expr → Joined
customers_with_orders x = roll-Joined (record {
  first = Table (codes "customer") None;
  joins = join_on (codes "orders") x ∷ [];
})

-- A subquery in ON is asked for each combination of both sides' rows: `.. on o_custkey = c_custkey
-- and exists (select * from region where r_regionkey + o_orderkey = 11 + c_custkey)`, by a left
-- outer join and by an inner one. A left row that no combination keeps stands with a null.
abbrev pub SubqueriesOfOn : Type 0
SubqueriesOfOn = HasRows
    (pairs_from (customers_joined_on
    (e.And is_of_customer (e.Exists (all_where (codes "region") is_sum_of_both) ∷ []))))
    ((whole 1 ∷ whole 8 ∷ []) ∷ (whole 2 ∷ Null ∷ []) ∷ [])
    × HasRows (pairs_from (customers_with_orders
    (e.And is_of_customer (e.Exists (all_where (codes "region") is_sum_of_both) ∷ []))))
    ((whole 1 ∷ whole 8 ∷ []) ∷ [])

-- lateral (query) as t (name)
abbrev pub lateral_as : Block → Name → FromItem
lateral_as q name = Lateral q (codes "t") (name ∷ [])

-- customer left outer join lateral (select o_orderkey from orders where o_custkey = c_custkey)
-- as t (k) on k > 7
abbrev pub customers_with_later_orders : Joined
customers_with_later_orders = roll-Joined (record {
  first = Table (codes "customer") None;
  joins = record {
    kind = LeftOuter;
    item = lateral_as (orders_where o_orderkey is_of_customer) (codes "k");
    condition = e.Compare compared.Greater (named (codes "k")) (number 7);
  } ∷ [];
})

-- A lateral item is taken anew for each row to its left: `select c_custkey, n from customer,
-- lateral (select count(*) from orders where o_custkey = c_custkey) as t (n)`,
-- `select c_custkey, k from customers_with_later_orders`
abbrev pub AnsweredLaterals : Type 0
AnsweredLaterals = HasRows
    (statement
    (select_from (item c_custkey ∷ item (named (codes "n")) ∷ [])
    (from_table (codes "customer")
    ∷ roll-Joined (record {
      first = lateral_as (orders_where e.CountRows is_of_customer) (codes "n");
      joins = [];
    }) ∷ [])))
    ((whole 1 ∷ whole 2 ∷ []) ∷ (whole 2 ∷ whole 0 ∷ []) ∷ [])
    × HasRows (statement
    (select_from (item c_custkey ∷ item (named (codes "k")) ∷ [])
    (customers_with_later_orders ∷ [])))
    ((whole 1 ∷ whole 8 ∷ []) ∷ (whole 2 ∷ Null ∷ []) ∷ [])

-- select x from nation having ..
abbrev pub nations_having : Expr → Expr → Query
nations_having x condition = statement
    (block.Select (roll-Select (record {
      is_distinct = false;
      selected = Items (item x ∷ []);
      from = from_table (codes "nation") ∷ [];
      condition = Absent;
      group = [];
      having = Condition condition;
    })))

-- l_discount, of lineitem
abbrev pub l_discount : Expr
l_discount = named (codes "l_discount")

-- l_shipdate, of lineitem
abbrev pub l_shipdate : Expr
l_shipdate = named (codes "l_shipdate")

-- l_shipdate >= date '1994-01-01' and l_shipdate < date '1994-01-01' + interval '1' year
-- and l_discount between 0.06 - 0.01 and 0.06 + 0.01 and l_quantity < 24
abbrev pub of_one_year : Expr
of_one_year =
    e.And (e.Compare compared.GreaterOrEqual l_shipdate (date (codes "1994-01-01")))
    (e.Compare compared.Less l_shipdate
    (e.Sum (date (codes "1994-01-01")) (plus (e.Interval (codes "1") Year) ∷ []))
    ∷ e.Between l_discount (e.Sum (e.Number (pos 6) 2) (minus (e.Number (pos 1) 2) ∷ []))
    (e.Sum (e.Number (pos 6) 2) (plus (e.Number (pos 1) 2) ∷ []))
    ∷ e.Compare compared.Less (named (codes "l_quantity")) (number 24) ∷ [])

-- Without GROUP BY there is one group, also of no rows: `select 1 from nation having 1 = 1`,
-- `.. having 1 = 0`, `select count(*) from nation having count(*) = 0`,
-- `select sum(l_extendedprice * l_discount) as revenue from lineitem where ..`
abbrev pub GroupOfNoRows : Type 0
GroupOfNoRows = HasRows (nations_having (number 1) (equal (number 1) (number 1))) (wholes (1 ∷ []))
    × HasRows (nations_having (number 1) (equal (number 1) (number 0))) []
    × HasRows (nations_having e.CountRows (equal e.CountRows (number 0))) (wholes (0 ∷ []))
    × HasRows (statement
    (select_where
    (with_alias
    (e.Aggregate Sum (e.Product (named (codes "l_extendedprice"))
    (record { operator = Times; value = l_discount } ∷ [])))
    (codes "revenue") ∷ []) (from_table (codes "lineitem") ∷ []) of_one_year))
    ((Null ∷ []) ∷ [])

-- select c_custkey, count(o_orderkey) from customer left outer join orders
-- on c_custkey = o_custkey and o_comment not like '%special%requests%' group by c_custkey
abbrev pub counted_orders : Block
counted_orders = block.Select (roll-Select (record {
  is_distinct = false;
  selected = Items (item c_custkey ∷ item (e.Count o_orderkey) ∷ []);
  from = customers_joined_on
      (e.And (equal c_custkey (named (codes "o_custkey")))
      (e.Not (e.Like (named (codes "o_comment")) (codes "%special%requests%")) ∷ [])) ∷ [];
  condition = Absent;
  group = record { item = None; name = codes "c_custkey" } ∷ [];
  having = Absent;
}))

-- select c_count, count(*) as custdist from (counted_orders) as c_orders (c_custkey, c_count)
-- group by c_count order by custdist desc, c_count desc
abbrev pub distribution : Query
distribution = record {
  with_queries = [];
  block = block.Select (roll-Select (record {
    is_distinct = false;
    selected = Items (item (named (codes "c_count")) ∷ with_alias e.CountRows (codes "custdist")
        ∷ []);
    from = roll-Joined (record {
      first = Derived counted_orders (codes "c_orders") (codes "c_custkey" ∷ codes "c_count" ∷ []);
      joins = [];
    }) ∷ [];
    condition = Absent;
    group = record { item = None; name = codes "c_count" } ∷ [];
    having = Absent;
  }));
  order = record { column = codes "custdist"; is_descending = true }
      ∷ record { column = codes "c_count"; is_descending = true } ∷ [];
  limit = None;
  version = None;
}

-- One customer has two orders, and one has none.
abbrev pub Distribution : Type 0
Distribution = HasRows distribution
    ((whole 2 ∷ whole 1 ∷ []) ∷ (whole 0 ∷ whole 1 ∷ []) ∷ [])
