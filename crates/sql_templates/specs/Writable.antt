-- Values that can be put into a script.
use Rattle.std.specs.Prelude.{◌≡◌, ◌≤◌, true, List, [], ◌∷◌}
use Rattle.base_text.specs.Printable.{AllPrintable}
use Rattle.base_decimal.specs.Decimal.{fits}
use Rattle.sql_ast.specs.declared.statement.TemplateValue.{TemplateValue}
use Rattle.sql_ast.specs.declared.statement.TemplateValue.TheVariants as value

-- a text is printable, and a number is one that a coefficient and a scale hold
abbrev pub IsWritable : TemplateValue → Type 0
IsWritable (value.Text text) = AllPrintable text
IsWritable (value.Number number places) = (fits number ≡ true) × (places ≤ 18)

-- each of the values is such
abbrev pub AreWritable : List TemplateValue → Type 0
AreWritable [] = Unit {0}
AreWritable (v ∷ values) = IsWritable v × AreWritable values
