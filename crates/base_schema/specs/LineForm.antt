-- What the lines of a file are.
use Rattle.std.specs.Prelude.{ℕ, Bool, true, false, List, [], ◌∷◌, map, slice_index_or, IsTrue}
use Rattle.std.specs.List.{All}
use Rattle.base_value.specs.declared.value.Value.{Value}
use Rattle.base_value.specs.declared.value.Value.TheVariants as value
use Rattle.base_schema.specs.declared.column.ColumnKind.{ColumnKind}
use Rattle.base_schema.specs.declared.column.ColumnKind.TheVariants.{Key}
use Rattle.base_schema.specs.declared.column.LineColumn.{LineColumn}
use Rattle.base_schema.specs.declared.file.DataFile.{DataFile}
use Rattle.base_schema.specs.declared.file.DataFile.TheVariants.{Table, Refresh}
use Rattle.base_refusals.specs.declared.refresh.RefreshFile.{RefreshFile}
use Rattle.base_refusals.specs.declared.refresh.RefreshFile.TheVariants.{Orders, Lineitem, Delete}
use Rattle.base_schema.specs.declared.table.TableName.{TableName}
use Rattle.base_schema.specs.declared.table.TableName.TheVariants as name
use Rattle.base_schema.specs.Kinds.{can_hold_row}
use Rattle.base_schema.specs.Tables.{columns_of, key_columns_of}

-- the columns of a line, the places of the key's columns, counted from 0, and whether no two lines
-- may have one key
pub record LineForm : Type 0 where
  pub columns : List LineColumn
  pub key : List ℕ
  pub unique : Bool

-- a column of that kind without nulls
abbrev pub never_null : ColumnKind → LineColumn
never_null kind = record { kind = kind; nullable = false }

-- a table's lines, where the keys differ or where they need not
abbrev pub lines_of : TableName → Bool → LineForm
lines_of table unique = record {
  columns = columns_of table;
  key = key_columns_of table;
  unique = unique;
}

-- the lines of a table's file: no two have one key
abbrev pub table_form : TableName → LineForm
table_form table = lines_of table true

-- the lines of a refresh file: those of orders or lineitem, or one order's key each; a key may
-- stand twice
abbrev pub refresh_form : RefreshFile → LineForm
refresh_form Orders = lines_of name.Orders false
refresh_form Lineitem = lines_of name.Lineitem false
refresh_form Delete = record { columns = never_null Key ∷ []; key = 0 ∷ []; unique = false }

-- the lines of a file
abbrev pub file_form : DataFile → LineForm
file_form (Table table) = table_form table
file_form (Refresh file) = refresh_form file

-- the values of the key of a line's row
abbrev pub key_of : LineForm → List Value → List Value
key_of form row = map (λ place. slice_index_or row place value.Null) form.key

-- a row has a value for each column, which the column can hold
abbrev pub fits : LineForm → List Value → Bool
fits form = can_hold_row form.columns

-- each of the rows does
abbrev pub RowsFit : LineForm → List (List Value) → Type 0
RowsFit form = All (λ row. IsTrue (fits form row))
