-- Why a file gives no rows.
use Rattle.std.specs.Prelude.{◌≡◌, Result, Err, ⊤}
use Rattle.base_refusals.specs.declared.line.LineFault.{LineFault}
use Rattle.base_refusals.specs.declared.line.LineRefusal.{LineRefusal}
use Rattle.store_file_reader.specs.declared.error.FieldsError.{FieldsError}
use Rattle.store_file_reader.specs.declared.error.FieldsError.TheVariants as fields
use Rattle.store_file_reader.specs.declared.error.TableError.{TableError}
use Rattle.store_file_reader.specs.declared.error.TableError.TheVariants.{Refused, OutOfMemory}

-- the error is the refusal that stands there, or memory ran out
abbrev pub IsErrorOf : {A : Type 0} → Result A LineRefusal → TableError → Type 0
IsErrorOf r (Refused refusal) = r ≡ Err refusal
IsErrorOf r OutOfMemory = ⊤

-- the error is what is wrong with a line's fields, or memory ran out
abbrev pub Blames : {A : Type 0} → Result A LineFault → FieldsError → Type 0
Blames r (fields.Bad fault) = r ≡ Err fault
Blames r fields.OutOfMemory = ⊤
