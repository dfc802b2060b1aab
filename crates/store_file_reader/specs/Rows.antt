-- Rows of lines.
use Rattle.std.specs.Prelude.{List}
use Rattle.base_value.specs.declared.value.Value.{Value}
use Rattle.base_schema.specs.LineForm.{LineForm}

-- the form of lines, and the rows of some
pub record LineRows : Type 0 where
  pub form : LineForm
  pub rows : List (List Value)

-- these rows of lines of that form
abbrev pub line_rows : LineForm → List (List Value) → LineRows
line_rows form rows = record { form = form; rows = rows }
