-- Which values a column can hold, and which rows a table.
use Rattle.std.specs.Prelude.{◌^◌, Bool, true, false, not, ◌&&◌, ◌||◌, ◌==◌, nat_le, nat_lt, int_lt, List}
use Rattle.std.specs.Prelude.{length, IsTrue, ℤ, pos, unsigned_abs}
use Rattle.std.specs.Cmp.Lexicographic.{pointwise}
use Rattle.std.specs.List.{All}
use Rattle.base_value.specs.declared.value.Value.{Value}
use Rattle.base_value.specs.declared.value.Value.TheVariants as value
use Rattle.base_schema.specs.declared.column.ColumnKind.{ColumnKind}
use Rattle.base_schema.specs.declared.column.ColumnKind.TheVariants.{Key, Whole, Decimal, Date}
use Rattle.base_schema.specs.declared.column.ColumnKind.TheVariants.{Text}
use Rattle.base_schema.specs.declared.column.LineColumn.{LineColumn}
use Rattle.base_schema.specs.declared.table.TableName.{TableName}
use Rattle.base_schema.specs.Tables.{columns_of}

-- a whole number whose absolute value is at most 2^63 - 1
abbrev pub is_narrow : ℤ → Bool
is_narrow c = nat_lt (unsigned_abs c) (2 ^ 63)

-- the value is of that kind; no null and no fault is
abbrev pub is_of_kind : ColumnKind → Value → Bool
is_of_kind Key (value.Number scale c) = (scale == 0) && not (int_lt c (pos 0)) && is_narrow c
is_of_kind Whole (value.Number scale c) = (scale == 0) && is_narrow c
is_of_kind Decimal (value.Number scale c) = (scale == 2) && is_narrow c
is_of_kind Date (value.Date d) = true
is_of_kind (Text most) (value.Text t) = nat_le (length t) most
is_of_kind kind v = false

-- the value is null
abbrev pub is_null : Value → Bool
is_null value.Null = true
is_null v = false

-- a column can hold the value: one of its kind, or null where it may be null
abbrev pub can_hold : LineColumn → Value → Bool
can_hold column v = (column.nullable && is_null v) || is_of_kind column.kind v

-- a row has a value for each of the columns, which the column can hold
abbrev pub can_hold_row : List LineColumn → List Value → Bool
can_hold_row = pointwise can_hold

-- a row is of a table: its columns can hold it
abbrev pub RowIsOf : TableName → List Value → Type 0
RowIsOf table row = IsTrue (can_hold_row (columns_of table) row)

-- each of the rows is of a table
abbrev pub RowsAreOf : TableName → List (List Value) → Type 0
RowsAreOf table = All (RowIsOf table)
