-- Trees of queries with subqueries, worked out by hand: their rows by nested loops, and what they
-- read.
-- Of the tables only the columns that the queries read are written: a customer's key; an order's
-- key and its customer's; a region's key.
use Rattle.std.specs.Prelude.{◌≡◌, ℕ, List, [], ◌∷◌}
use Rattle.base_row_laws.specs.Ranked.{Ranked, ranked, true_rank, too_many_rows_rank}
use Rattle.base_value.specs.declared.value.Value.{Value}
use Rattle.base_value.specs.declared.value.Value.TheVariants.{Null}
use Rattle.expr_operators.specs.declared.operator.Arithmetic.TheVariants.{Add}
use Rattle.expr_operators.specs.declared.operator.Comparison.TheVariants.{Equal}
use Rattle.expr_scalar.specs.Cases.{whole}
use Rattle.expr_scalar.specs.declared.expr.Expr.{Expr}
use Rattle.expr_scalar.specs.declared.expr.Expr.TheVariants.{Column, Literal, Arithmetic, Compare}
use Rattle.expr_scalar.specs.declared.expr.Expr.TheVariants.{All, IsMarked}
use Rattle.base_schema.specs.declared.table.TableName.TheVariants as table
use Rattle.plan_algebra.specs.declared.aggregate.Aggregate.TheVariants.{CountRows}
use Rattle.plan_algebra.specs.declared.tree.DepTree.{DepTree}
use Rattle.plan_algebra.specs.declared.tree.DepTree.TheVariants as t
use Rattle.plan_algebra.specs.declared.tree.Side.TheVariants.{Closed, Dependent}
use Rattle.plan_algebra.specs.Trees.{Database, tree_rows, scans_of}
use Rattle.plan_algebra.specs.Plans.{reads_of}

-- two customers, of whom the first has two orders; five regions, and no nation
abbrev pub worked_database : Database
worked_database table.Customer = (whole 1 ∷ []) ∷ (whole 2 ∷ []) ∷ []
worked_database table.Orders = (whole 7 ∷ whole 1 ∷ []) ∷ (whole 8 ∷ whole 1 ∷ []) ∷ []
worked_database table.Region = (whole 0 ∷ []) ∷ (whole 1 ∷ []) ∷ (whole 2 ∷ []) ∷ (whole 3 ∷ [])
    ∷ (whole 4 ∷ []) ∷ []
worked_database other = []

-- two columns are equal
abbrev pub equal : ℕ → ℕ → Expr
equal i j = Compare Equal (Column i) (Column j)

-- a row at True
abbrev pub true_row : List Value → Ranked Value
true_row values = ranked values true_rank

-- select count(*) from orders where COLUMN = .., under a domain row of one column: the column
-- stands after it
abbrev pub count_of_orders : ℕ → DepTree
count_of_orders column =
    t.Group (t.Select (t.Scan table.Orders) (equal column 0)) [] (CountRows ∷ [])

-- select c_custkey, (select count(*) from orders where o_custkey = c_custkey) from customer
abbrev pub counts_of_customers : DepTree
counts_of_customers = t.Single (t.Scan table.Customer) (count_of_orders 2) (Dependent (0 ∷ [])) 0

-- customer left outer join orders on o_custkey = c_custkey
abbrev pub customers_with_orders : DepTree
customers_with_orders =
    t.Outer (t.Scan table.Customer)
    (t.Project (t.Scan table.Orders) (Column 0 ∷ Column 1 ∷ [])) Closed (equal 2 0)

-- select k, (select count(*) from orders where o_orderkey = k) from the above, k being o_orderkey
abbrev pub counts_of_keys : DepTree
counts_of_keys =
    t.Project (t.Single customers_with_orders (count_of_orders 1) (Dependent (1 ∷ [])) 0)
    (Column 1 ∷ Column 3 ∷ [])

-- select c_custkey from customer where 7 = (select o_orderkey from orders where o_custkey =
-- c_custkey)
abbrev pub orders_of_customers : DepTree
orders_of_customers =
    t.Project
    (t.Select
    (t.Single (t.Scan table.Customer)
    (t.Project (t.Select (t.Scan table.Orders) (equal 2 0)) (Column 1 ∷ []))
    (Dependent (0 ∷ [])) 0)
    (Compare Equal (Literal (whole 7)) (Column 1))) (Column 0 ∷ [])

-- select r_regionkey from region where exists (select * from nation where n_regionkey =
-- r_regionkey)
abbrev pub regions_with_nations : DepTree
regions_with_nations =
    t.Project
    (t.Select
    (t.Mark (t.Scan table.Region) (t.Select (t.Scan table.Nation) (equal 3 0))
    (Dependent (0 ∷ [])) (All [])) (IsMarked (Column 1))) (Column 0 ∷ [])

-- select * from region where r_regionkey + c_custkey = 1 and o_orderkey = 8, under a domain row of
-- these two columns
abbrev pub regions_beside : DepTree
regions_beside =
    t.Select (t.Scan table.Region)
    (All (Compare Equal (Arithmetic (Column 2) (record { operator = Add; operand = Column 0 } ∷ []))
    (Literal (whole 1))
    ∷ Compare Equal (Column 1) (Literal (whole 8)) ∷ []))

-- select * from orders where o_custkey = c_custkey and exists (the above)
abbrev pub orders_beside_regions : DepTree
orders_beside_regions =
    t.Select (t.Mark (t.Scan table.Orders) regions_beside (Dependent (0 ∷ 1 ∷ [])) (All []))
    (All (equal 2 0 ∷ IsMarked (Column 3) ∷ []))

-- select c_custkey from customer where exists (the above)
abbrev pub customers_beside_regions : DepTree
customers_beside_regions =
    t.Project
    (t.Select
    (t.Mark (t.Scan table.Customer) orders_beside_regions (Dependent (0 ∷ [])) (All []))
    (IsMarked (Column 1))) (Column 0 ∷ [])

-- A customer without orders counts 0; a null key counts 0; a scalar subquery of two rows is
-- TooManyRows; EXISTS of no rows is False.
-- A subquery reads columns of the two queries around it.
-- Each reads each of its tables once.
pub record WorkedRows : Type 0 where
  pub customers : tree_rows counts_of_customers worked_database []
      ≡ true_row (whole 1 ∷ whole 2 ∷ []) ∷ true_row (whole 2 ∷ whole 0 ∷ []) ∷ []
  pub customers_read : reads_of worked_database (scans_of counts_of_customers) ≡ 4
  pub keys : tree_rows counts_of_keys worked_database []
      ≡ true_row (whole 7 ∷ whole 1 ∷ []) ∷ true_row (whole 8 ∷ whole 1 ∷ [])
      ∷ true_row (Null ∷ whole 0 ∷ []) ∷ []
  pub orders : tree_rows orders_of_customers worked_database []
      ≡ ranked (whole 1 ∷ []) too_many_rows_rank ∷ []
  pub regions : tree_rows regions_with_nations worked_database [] ≡ []
  pub regions_read : reads_of worked_database (scans_of regions_with_nations) ≡ 5
  pub nested : tree_rows customers_beside_regions worked_database [] ≡ true_row (whole 1 ∷ []) ∷ []
  pub nested_read : reads_of worked_database (scans_of customers_beside_regions) ≡ 9
