-- Fields of a row that is put together.
use Rattle.base_text.specs.Printable.{AllPrintable}
use Rattle.base_value.specs.declared.value.Value.{Value}
use Rattle.base_value.specs.declared.value.Value.TheVariants.{Null, Number, Date, Text}
use Rattle.base_columns.specs.declared.field.Field.{Field}
use Rattle.base_columns.specs.declared.field.Field.TheVariants.{Number as NumberField, Date as DateField}
use Rattle.base_columns.specs.declared.field.Field.TheVariants.{Text as TextField, Null as NullField}

-- the value that a field stands for
abbrev pub field_value : Field → Value
field_value (NumberField scale number) = Number scale number
field_value (DateField date) = Date date
field_value (TextField bytes) = Text bytes.now
field_value NullField = Null

-- the bytes of a text are printable
abbrev pub IsPrintableField : Field → Type 0
IsPrintableField (NumberField scale number) = Unit {0}
IsPrintableField (DateField date) = Unit {0}
IsPrintableField (TextField bytes) = AllPrintable bytes.now
IsPrintableField NullField = Unit {0}
