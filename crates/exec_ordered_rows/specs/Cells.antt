-- Values of rows where they lie.
use Rattle.std.specs.Prelude.{◌≡◌, true, ◌||◌, List, map}
use Rattle.std.specs.List.{All}
use Rattle.base_null_marks.specs.Marks.{marked}
use Rattle.base_value.specs.declared.value.Value.{Value}
use Rattle.base_value.specs.declared.value.Value.TheVariants as value
use Rattle.base_columns.specs.Forms.{is_null, is_text}
use Rattle.expr_aggregates.specs.Values.{value_rank}
use Rattle.exec_ordered_rows.specs.declared.cell.Cell.{Cell}
use Rattle.exec_ordered_rows.specs.declared.cell.Cell.TheVariants as cell
use Rattle.exec_ordered_rows.specs.declared.column_cells.Kept.{Kept}
use Rattle.exec_ordered_rows.specs.declared.column_cells.Kept.TheVariants as kept

-- the value that is meant
abbrev pub cell_value : Cell → Value
cell_value (cell.Fault f) = value.Fault f
cell_value (cell.Number scale c) = value.Number scale c
cell_value (cell.Text bytes) = value.Text bytes.now
cell_value (cell.Date d) = value.Date d
cell_value cell.Null = value.Null

-- each value is a text or null
abbrev pub AreTexts : List Value → Type 0
AreTexts values = All (λ v. (is_text v || is_null v) ≡ true) values

-- no value is a fault: each has True's rank
abbrev pub HaveNoFault : List Value → Type 0
HaveNoFault values = All (λ v. value_rank v ≡ 5) values

-- the values that are kept
abbrev pub kept_cells : Kept → List Value
kept_cells (kept.Numbers scale numbers marks) =
    marked value.Null marks.now (map (value.Number scale) numbers.now)
kept_cells (kept.Dates dates marks) = marked value.Null marks.now (map value.Date dates.now)
kept_cells (kept.Texts column) = column.now
kept_cells (kept.Values values) = values.items

-- what is kept as texts are texts and nulls
abbrev pub KeepsTexts : Kept → Type 0
KeepsTexts (kept.Texts column) = AreTexts column.now
KeepsTexts other = Unit {0}
