-- A state as eight lists of rows, in the schema's order of tables.
use Rattle.std.specs.Prelude.{ℕ, List, [], slice_index_or}
use Rattle.base_value.specs.declared.value.Value.{Value}
use Rattle.base_schema.specs.declared.table.TableName.{TableName}
use Rattle.base_schema.specs.declared.table.TableName.TheVariants.{Region, Nation, Part, Supplier}
use Rattle.base_schema.specs.declared.table.TableName.TheVariants.{Partsupp, Customer, Orders}
use Rattle.base_schema.specs.declared.table.TableName.TheVariants.{Lineitem}
use Rattle.base_schema.specs.Kinds.{RowsAreOf}
use Rattle.base_schema.specs.State.{State, table_rows}

-- the table's place in the schema's order, counted from 0
abbrev pub place_of : TableName → ℕ
place_of Region = 0
place_of Nation = 1
place_of Part = 2
place_of Supplier = 3
place_of Partsupp = 4
place_of Customer = 5
place_of Orders = 6
place_of Lineitem = 7

-- the rows in the list at a place
abbrev pub list_at : List (List (List Value)) → ℕ → List (List Value)
list_at lists place = slice_index_or lists place []

-- the state whose tables have these lists of rows
abbrev pub state_of : List (List (List Value)) → State
state_of lists = record {
  region = list_at lists 0;
  nation = list_at lists 1;
  part = list_at lists 2;
  supplier = list_at lists 3;
  partsupp = list_at lists 4;
  customer = list_at lists 5;
  orders = list_at lists 6;
  lineitem = list_at lists 7;
}

-- each table's rows are of that table's kinds
abbrev pub IsOfKinds : State → Type 0
IsOfKinds state = (table : TableName) → RowsAreOf table (table_rows state table)
