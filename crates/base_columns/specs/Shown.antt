-- The values that a form holds.
use Rattle.std.specs.Prelude.{List, map}
use Rattle.base_value.specs.declared.value.Value.{Value}
use Rattle.base_value.specs.declared.value.Value.TheVariants.{Number, Date, Text}
use Rattle.base_columns.specs.declared.form.Form.{Form}
use Rattle.base_columns.specs.declared.form.Form.TheVariants.{Numbers, Dates, Texts, Coded, Values}

-- the values of a form
abbrev pub shown : Form → List Value
shown (Numbers scale numbers) = map (Number scale) numbers.items
shown (Dates dates) = map Date dates.items
shown (Texts texts) = map Text texts
shown (Coded codes) = map Text codes
shown (Values values) = values.items
