-- The order of a state's lists is the schema's.
use Rattle.std.specs.Prelude.{◌≡◌, List, Some, length, map, slice_get}
use Rattle.base_value.specs.declared.value.Value.{Value}
use Rattle.base_schema.specs.State.{table_rows}
use Rattle.base_schema.specs.Tables.{all_tables}
use Rattle.base_schema.specs.declared.table.TableName.{TableName}
use Rattle.store_state.specs.Lists.{place_of, state_of}

-- each table stands at its place in the schema's list of tables
abbrev pub PlaceLaw : Type 0
PlaceLaw = (table : TableName) → slice_get all_tables (place_of table) ≡ Some table

-- the rows of the tables of the state of eight lists, in the schema's order, are these lists
abbrev pub ListsLaw : Type 0
ListsLaw = (lists : List (List (List Value))) → length lists ≡ 8
    → map (table_rows (state_of lists)) all_tables ≡ lists
