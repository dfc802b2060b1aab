-- What is read of a table's file.
use Rattle.std.proofs.Common.{◌≡◌, ◌∙◌, ℕ, List, Option, None, Some, ap, sym}
use Rattle.std.specs.Prelude.{Err, Ok}
use Rattle.base_refusals.specs.declared.line.LineRefusal.{LineRefusal}
use Rattle.base_value.specs.declared.value.Value.{Value}
use Rattle.base_schema.specs.LineForm.{table_form}
use Rattle.base_schema.specs.declared.table.TableName.{TableName}
use Rattle.app_inputs.specs.DataFile.{FileRows, IsFileOf}
use Rattle.app_inputs.specs.Inputs.{rows_or_refusal}
use Rattle.app_inputs.specs.TableFile.{IsRowsOf}
use Rattle.app_inputs.specs.Views.{Refuses}
use Rattle.app_inputs.specs.declared.input_error.InputError.{InputError}
use Rattle.app_inputs.specs.declared.input_error.InputError.TheVariants as error
use Rattle.app_inputs.specs.declared.input_error.InputFault.TheVariants as fault
use Rattle.app_inputs.specs.declared.input_error.ReadError.TheVariants as read

-- rows that were read
pub rows_read : (table : TableName) (name : List ℕ) (left : Option (List ℕ)) (rows : List (List Value)) → IsFileOf (table_form table) left (Ok rows) → IsRowsOf table name left (Ok rows)
rows_read table name None rows is = tt
rows_read table name (Some text) rows is = ap (rows_or_refusal name) (sym is)

-- a bad line that was read
pub line_refused : (table : TableName) (name : List ℕ) (left : Option (List ℕ)) (first : LineRefusal) (made : InputError) → IsFileOf (table_form table) left (Err first) → Refuses name (fault.Line first) made
    → IsRowsOf table name left (Err made)
line_refused table name None first made is refuses = tt
line_refused table name (Some text) first (error.Unread read.Fault) is refuses = absurd refuses
line_refused table name (Some text) first (error.Unread read.OutOfMemory) is refuses = tt
line_refused table name (Some text) first (error.Refused refusal) is refuses = ap (rows_or_refusal name) (sym is) ∙ ap Err (sym refuses)
