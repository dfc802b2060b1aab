-- The state of the database: the rows of the eight tables, each table's in order.
use Rattle.std.specs.Prelude.{List}
use Rattle.base_value.specs.declared.value.Value.{Value}
use Rattle.base_schema.specs.declared.table.TableName.{TableName}
use Rattle.base_schema.specs.declared.table.TableName.TheVariants.{Region, Nation, Part, Supplier}
use Rattle.base_schema.specs.declared.table.TableName.TheVariants.{Partsupp, Customer, Orders}
use Rattle.base_schema.specs.declared.table.TableName.TheVariants.{Lineitem}

-- the rows of each table
pub record State : Type 0 where
  pub region : List (List Value)
  pub nation : List (List Value)
  pub part : List (List Value)
  pub supplier : List (List Value)
  pub partsupp : List (List Value)
  pub customer : List (List Value)
  pub orders : List (List Value)
  pub lineitem : List (List Value)

-- the rows of a table in a state
abbrev pub table_rows : State → TableName → List (List Value)
table_rows state Region = state.region
table_rows state Nation = state.nation
table_rows state Part = state.part
table_rows state Supplier = state.supplier
table_rows state Partsupp = state.partsupp
table_rows state Customer = state.customer
table_rows state Orders = state.orders
table_rows state Lineitem = state.lineitem
