-- States whose tables are put in one by one.
use Rattle.std.specs.Prelude.{List, []}
use Rattle.base_value.specs.declared.value.Value.{Value}
use Rattle.base_schema.specs.State.{State}
use Rattle.base_schema.specs.declared.table.TableName.{TableName}
use Rattle.base_schema.specs.declared.table.TableName.TheVariants.{Region, Nation, Part, Supplier}
use Rattle.base_schema.specs.declared.table.TableName.TheVariants.{Partsupp, Customer, Orders}
use Rattle.base_schema.specs.declared.table.TableName.TheVariants.{Lineitem}

-- the state of these rows, in the schema's order of tables
abbrev pub of_tables :
    (region nation part supplier partsupp customer orders lineitem : List (List Value)) → State
of_tables region nation part supplier partsupp customer orders lineitem = record {
  region = region;
  nation = nation;
  part = part;
  supplier = supplier;
  partsupp = partsupp;
  customer = customer;
  orders = orders;
  lineitem = lineitem;
}

-- the state of the rows of each table
abbrev pub state_of : (TableName → List (List Value)) → State
state_of rows =
    of_tables (rows Region) (rows Nation) (rows Part) (rows Supplier) (rows Partsupp)
    (rows Customer) (rows Orders) (rows Lineitem)

-- no table has a row
abbrev pub empty_state : State
empty_state = of_tables [] [] [] [] [] [] [] []

-- the state with these rows in place of a table's
abbrev pub with_table : State → TableName → List (List Value) → State
with_table state Region rows = record state { region = rows }
with_table state Nation rows = record state { nation = rows }
with_table state Part rows = record state { part = rows }
with_table state Supplier rows = record state { supplier = rows }
with_table state Partsupp rows = record state { partsupp = rows }
with_table state Customer rows = record state { customer = rows }
with_table state Orders rows = record state { orders = rows }
with_table state Lineitem rows = record state { lineitem = rows }
