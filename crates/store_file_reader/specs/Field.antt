-- The value of a field.
use Rattle.std.specs.Prelude.{ℕ, ℤ, Bool, ◌&&◌, ◌==◌, List, [], ◌∷◌, Result, Ok, Err, Option, Some}
use Rattle.std.specs.Prelude.{None, if◌then◌else◌}
use Rattle.std.specs.Cmp.Lexicographic.{pointwise}
use Rattle.base_text.specs.Printable.{first_unprintable}
use Rattle.base_date.specs.Date.{date_of}
use Rattle.base_decimal.specs.Written.{decimal_read}
use Rattle.base_decimal.specs.declared.read.Spelling.{Spelling}
use Rattle.base_decimal.specs.declared.read.Spelling.TheVariants.{NotANumber, TooWide}
use Rattle.base_refusals.specs.declared.line.LineFault.{LineFault}
use Rattle.base_refusals.specs.declared.line.LineFault.TheVariants.{BadNumber, NumberTooWide}
use Rattle.base_refusals.specs.declared.line.LineFault.TheVariants.{BadDate}
use Rattle.base_refusals.specs.declared.line.LineFault.TheVariants.{BadText, TextTooLong}
use Rattle.base_value.specs.declared.value.Value.{Value}
use Rattle.base_value.specs.declared.value.Value.TheVariants as value
use Rattle.base_schema.specs.declared.column.ColumnKind.{ColumnKind}
use Rattle.base_schema.specs.declared.column.ColumnKind.TheVariants.{Key, Whole, Decimal, Date}
use Rattle.base_schema.specs.declared.column.ColumnKind.TheVariants.{Text}
use Rattle.base_schema.specs.Kinds.{is_of_kind}
use Rattle.base_schema.specs.declared.column.LineColumn.{LineColumn}

-- the number that was read at a scale, where the column can hold it
abbrev pub number_field : ColumnKind → ℕ → Result ℤ Spelling → Result Value LineFault
number_field kind scale (Ok c) =
    if is_of_kind kind (value.Number scale c) then Ok (value.Number scale c) else Err NumberTooWide
number_field kind scale (Err NotANumber) = Err BadNumber
number_field kind scale (Err TooWide) = Err NumberTooWide

-- the date that was read
abbrev pub date_field : Option ℕ → Result Value LineFault
date_field (Some d) = Ok (value.Date d)
date_field None = Err BadDate

-- a text without its first bad byte, where the column can hold it
abbrev pub printable_field : ColumnKind → List ℕ → Option ℕ → Result Value LineFault
printable_field kind text (Some place) = Err BadText
printable_field kind text None =
    if is_of_kind kind (value.Text text) then Ok (value.Text text) else Err TextTooLong

-- the text that a field is: BadText comes before TextTooLong
abbrev pub text_field : ColumnKind → List ℕ → Result Value LineFault
text_field kind text = printable_field kind text (first_unprintable text)

-- the value of a field in a column of a kind, or what is wrong with it
abbrev pub kind_field : ColumnKind → List ℕ → Result Value LineFault
kind_field Key field = number_field Key 0 (decimal_read field 0)
kind_field Whole field = number_field Whole 0 (decimal_read field 0)
kind_field Decimal field = number_field Decimal 2 (decimal_read field 2)
kind_field Date field = date_field (date_of field)
kind_field (Text most) field = text_field (Text most) field

-- a field of the two bytes \N
abbrev pub spells_null : List ℕ → Bool
spells_null field = pointwise ◌==◌ field (92 ∷ 78 ∷ [])

-- the value of a field in a column: null where the column may be null and the field spells it,
-- before its kind is asked
abbrev pub column_value : LineColumn → List ℕ → Result Value LineFault
column_value column field =
    if column.nullable && spells_null field then Ok value.Null else kind_field column.kind field
