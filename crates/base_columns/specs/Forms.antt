-- What a column's form says of its values.
use Rattle.std.specs.Prelude.{◌≡◌, ◌==◌, Bool, true, false, List}
use Rattle.std.specs.List.{All}
use Rattle.base_value.specs.declared.value.Value.{Value}
use Rattle.base_value.specs.declared.value.Value.TheVariants.{Null, Number, Date, Text}
use Rattle.base_columns.specs.declared.column_builder.ColumnForm.{ColumnForm}
use Rattle.base_columns.specs.declared.column_builder.ColumnForm.TheVariants.{Numbers, Dates, Texts}
use Rattle.base_columns.specs.declared.column_builder.ColumnForm.TheVariants.{Values}

-- whether a value is of a form: a number of its scale, a date, a text; `Values` takes any
abbrev pub is_of_form : ColumnForm → Value → Bool
is_of_form (Numbers s) (Number t c) = s == t
is_of_form Dates (Date d) = true
is_of_form Texts (Text t) = true
is_of_form Values v = true
is_of_form form v = false

-- whether a value is a text
abbrev pub is_text : Value → Bool
is_text v = is_of_form Texts v

-- whether a value is null
abbrev pub is_null : Value → Bool
is_null Null = true
is_null v = false

-- each value is of the form
abbrev pub AreOfForm : ColumnForm → List Value → Type 0
AreOfForm form vs = All (λ v. is_of_form form v ≡ true) vs
