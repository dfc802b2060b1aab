-- How many rows each table has, as it is printed.
use Rattle.std.specs.Prelude.{List, ℕ, ◌++◌, codes, decimal, length}
use Rattle.std.specs.List.{flat_map}
use Rattle.base_schema.specs.State.{State, table_rows}
use Rattle.base_schema.specs.Tables.{all_tables, table_name}
use Rattle.base_schema.specs.declared.table.TableName.{TableName}

-- the line of a table
abbrev pub count_line : State → TableName → List ℕ
count_line state table =
    table_name table ++ codes " rows " ++ decimal (length (table_rows state table)) ++ codes "\n"

-- a line for each table, in the schema's order
abbrev pub counts_text : State → List ℕ
counts_text state = flat_map (count_line state) all_tables
