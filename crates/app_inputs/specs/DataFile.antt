-- What is read of a data file, be it a table's or a refresh set's.
use Rattle.std.specs.Prelude.{◌≡◌, ℕ, List, [], ⊤, IfOk, Option, None, Some, Result, Ok, Err}
use Rattle.base_refusals.specs.declared.line.LineRefusal.{LineRefusal}
use Rattle.base_value.specs.declared.value.Value.{Value}
use Rattle.base_schema.specs.Kinds.{RowsAreOf}
use Rattle.base_schema.specs.LineForm.{LineForm, RowsFit}
use Rattle.base_schema.specs.Tables.{columns_of}
use Rattle.base_schema.specs.declared.table.TableName.{TableName}
use Rattle.store_file_reader.specs.File.{file_rows, most_bytes}
use Rattle.store_file_reader.specs.Reading.{HasRead, Reading, bytes_fed}
use Rattle.store_file_reader.specs.declared.error.TableError.{TableError}
use Rattle.store_file_reader.specs.declared.error.TableError.TheVariants as table_error
use Rattle.app_inputs.specs.declared.data_file.DataReader.{DataReader}
use Rattle.app_inputs.specs.declared.data_file.DataReader.TheVariants.{Table, Refresh}
use Rattle.app_inputs.specs.declared.input_error.ReadError.{ReadError}
use Rattle.app_inputs.specs.declared.input_error.ReadError.TheVariants as read

-- rows, or a bad line
abbrev pub FileRows : Type 0
FileRows = Result (List (List Value)) LineRefusal

-- rows that a file of these lines can have: where its columns are a table's, of that table's kinds
abbrev pub FitForm : LineForm → FileRows → Type 0
FitForm form read = IfOk read (λ rows. RowsFit form rows
    × ((table : TableName) → form.columns ≡ columns_of table → RowsAreOf table rows))

-- rows that some file of these lines gave
abbrev pub IsGiven : LineForm → FileRows → Type 0
IsGiven form read = IfOk read
    (λ rows. (text : List ℕ) × (file_rows form most_bytes text ≡ Ok rows))

-- what a file of these lines holds, where the bytes that were left of it are known
abbrev pub IsFileOf : LineForm → Option (List ℕ) → FileRows → Type 0
IsFileOf form None read = ⊤
IsFileOf form (Some text) read = read ≡ file_rows form most_bytes text

-- the error's bad line, unless memory ran out
abbrev pub FailsAs : TableError → Result FileRows ReadError → Type 0
FailsAs (table_error.Refused first) made = made ≡ Ok (Err first)
FailsAs table_error.OutOfMemory made = made ≡ Err read.OutOfMemory

-- what a reader has read
abbrev pub reading_of : DataReader → Reading
reading_of (Table reader) = reader
reading_of (Refresh reader) = reader

-- a reader of a whole file that has read nothing yet
pub record HasBegun (reader : Reading) : Type 0 where
  pub started : HasRead [] reader
  pub bytes : bytes_fed reader ≡ 0
  pub limit : reader.lines.limit ≡ most_bytes
