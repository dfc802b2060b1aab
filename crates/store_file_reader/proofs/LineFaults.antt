-- Which faults the fields of a line can have.
use Rattle.std.proofs.Common.{◌≡◌, ℕ, ℤ, Bool, true, false, cond, List, [], ◌∷◌, ◌&&◌, length, Option, Some, None, Result, Ok, Err, ap}
use Rattle.std.specs.List.{before_first, after_first}
use Rattle.base_text.specs.Printable.{first_unprintable}
use Rattle.base_date.specs.Date.{date_of}
use Rattle.base_decimal.specs.Written.{decimal_read}
use Rattle.base_decimal.specs.declared.read.Spelling.{Spelling}
use Rattle.base_decimal.specs.declared.read.Spelling.TheVariants.{NotANumber, TooWide}
use Rattle.base_refusals.specs.declared.line.LineFault.{LineFault}
use Rattle.base_refusals.specs.declared.line.LineFault.TheVariants.{FieldCount, BadNumber, NumberTooWide, BadDate, BadText, TextTooLong, DuplicateKey, FileTooLong}
use Rattle.base_value.specs.declared.value.Value.{Value}
use Rattle.base_schema.specs.declared.column.ColumnKind.{ColumnKind}
use Rattle.base_schema.specs.declared.column.ColumnKind.TheVariants.{Key, Whole, Decimal, Date, Text}
use Rattle.base_schema.specs.declared.column.LineColumn.{LineColumn}
use Rattle.store_file_reader.specs.Field.{kind_field, spells_null, column_value, number_field, date_field, printable_field}
use Rattle.store_file_reader.specs.Line.{is_bar, has_fields, put_first, values_of, row_of}

-- a fault of one field
abbrev pub IsOfField : LineFault → Type 0
IsOfField FieldCount = ⊥
IsOfField DuplicateKey = ⊥
IsOfField FileTooLong = ⊥
IsOfField fault = Unit {0}

-- a fault of a line's fields, and not of its key or of its place in the file
abbrev pub IsOfLine : LineFault → Type 0
IsOfLine DuplicateKey = ⊥
IsOfLine FileTooLong = ⊥
IsOfLine fault = Unit {0}

tested_fault : (b : Bool) (v : Value) (given fault : LineFault) → IsOfField given → cond b (Ok v) (Err given) ≡ Err fault → IsOfField fault
tested_fault true v given fault is e = cc
tested_fault false v given fault is e = let same : given ≡ fault = cc in rw (← same) is

number_fault : (kind : ColumnKind) (scale : ℕ) (r : Result ℤ Spelling) (fault : LineFault) → number_field kind scale r ≡ Err fault → IsOfField fault
number_fault kind scale (Ok c) fault e = tested_fault _ _ NumberTooWide fault tt e
number_fault kind scale (Err NotANumber) fault e = let same : BadNumber ≡ fault = cc in rw (← same) tt
number_fault kind scale (Err TooWide) fault e = let same : NumberTooWide ≡ fault = cc in rw (← same) tt

date_fault : (r : Option ℕ) (fault : LineFault) → date_field r ≡ Err fault → IsOfField fault
date_fault (Some d) fault e = cc
date_fault None fault e = let same : BadDate ≡ fault = cc in rw (← same) tt

text_fault : (kind : ColumnKind) (text : List ℕ) (r : Option ℕ) (fault : LineFault) → printable_field kind text r ≡ Err fault → IsOfField fault
text_fault kind text (Some place) fault e = let same : BadText ≡ fault = cc in rw (← same) tt
text_fault kind text None fault e = tested_fault _ _ TextTooLong fault tt e

pub field_fault : (kind : ColumnKind) (field : List ℕ) (fault : LineFault) → kind_field kind field ≡ Err fault → IsOfField fault
field_fault Key field fault e = number_fault Key 0 (decimal_read field 0) fault e
field_fault Whole field fault e = number_fault Whole 0 (decimal_read field 0) fault e
field_fault Decimal field fault e = number_fault Decimal 2 (decimal_read field 2) fault e
field_fault Date field fault e = date_fault (date_of field) fault e
field_fault (Text most) field fault e = text_fault (Text most) field (first_unprintable field) fault e

by_null : (null : Bool) (v : Value) (r : Result Value LineFault) (fault : LineFault) → (r ≡ Err fault → IsOfField fault) → cond null (Ok v) r ≡ Err fault → IsOfField fault
by_null true v r fault p e = cc
by_null false v r fault p e = p e

pub column_fault : (column : LineColumn) (field : List ℕ) (fault : LineFault) → column_value column field ≡ Err fault → IsOfField fault
column_fault column field fault e =
    by_null (column.nullable && spells_null field) _ (kind_field column.kind field) fault (field_fault column.kind field fault) e

put_fault : (r : Result Value LineFault) (s : Result (List Value) LineFault) (fault : LineFault)
    → (r ≡ Err fault → IsOfField fault) → (s ≡ Err fault → IsOfField fault) → put_first r s ≡ Err fault → IsOfField fault
put_fault (Err first) s fault p q e = let same : first ≡ fault = cc in p (ap Err same)
put_fault (Ok v) (Err first) fault p q e = q e
put_fault (Ok v) (Ok vs) fault p q e = cc

pub values_fault_of : (columns : List LineColumn) (text : List ℕ) (fault : LineFault) → values_of columns text ≡ Err fault → IsOfField fault
values_fault_of [] text fault e = cc
values_fault_of (column ∷ columns) text fault e =
    put_fault (column_value column (before_first is_bar text)) (values_of columns (after_first is_bar text)) fault
    (column_fault column (before_first is_bar text) fault)
    (values_fault_of columns (after_first is_bar text) fault)
    e

of_line : (fault : LineFault) → IsOfField fault → IsOfLine fault
of_line FieldCount is = tt
of_line BadNumber is = tt
of_line NumberTooWide is = tt
of_line BadDate is = tt
of_line BadText is = tt
of_line TextTooLong is = tt
of_line DuplicateKey is = is
of_line FileTooLong is = is

row_fault : (b : Bool) (r : Result (List Value) LineFault) (fault : LineFault) → (r ≡ Err fault → IsOfField fault)
    → cond b r (Err FieldCount) ≡ Err fault → IsOfLine fault
row_fault true r fault p e = of_line fault (p e)
row_fault false r fault p e = let same : FieldCount ≡ fault = cc in rw (← same) tt

pub row_faults : (columns : List LineColumn) (line : List ℕ) (fault : LineFault) → row_of columns line ≡ Err fault → IsOfLine fault
row_faults columns line fault e = row_fault (has_fields (length columns) line) (values_of columns line) fault (values_fault_of columns line fault) e
