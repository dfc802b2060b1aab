-- What is said of the made tables.
use Rattle.std.specs.Prelude.{◌≡◌, ◌≤◌, ℕ, List, ◌++◌, codes, Some, Ok}
use Rattle.base_value.specs.declared.value.Value.{Value}
use Rattle.store_file_reader.specs.File.{file_rows, most_bytes}
use Rattle.base_io.specs.Outside.{Folder, file_of}
use Rattle.base_schema.specs.LineForm.{table_form}
use Rattle.base_schema.specs.Tables.{table_name}
use Rattle.base_schema.specs.declared.table.TableName.{TableName}
use Rattle.app_sample_data.specs.Texts.{made}

-- the name of a table's file
abbrev pub file_name : TableName → List ℕ
file_name table = table_name table ++ codes ".tbl"

-- the table's file is among the files, and gives these rows
pub record GivesRows (files : Folder) (table : TableName) : Type 0 where
  pub text : List ℕ
  pub rows : List (List Value)
  pub held : file_of files (file_name table) ≡ Some text
  pub read : file_rows (table_form table) most_bytes text ≡ Ok rows

-- each table that is made for a number from 1 to 1000 gives rows
abbrev pub MadeTablesGiveRows : Type 0
MadeTablesGiveRows = (number : ℕ) → 1 ≤ number → number ≤ 1000 → (table : TableName)
    → GivesRows (made number) table
