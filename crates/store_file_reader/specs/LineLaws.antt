-- Laws of the fields of a line.
use Rattle.std.specs.Prelude.{◌≡◌, ◌↔◌, ◌⊎◌, ℕ, ◌<◌, false, List, [], ◌∷◌, ◌++◌, length, map, All}
use Rattle.std.specs.Prelude.{Result, Ok, Err}
use Rattle.std.specs.List.{join_with_byte, list_any, zip}
use Rattle.base_refusals.specs.declared.line.LineFault.{LineFault}
use Rattle.base_refusals.specs.declared.line.LineFault.TheVariants.{FieldCount}
use Rattle.base_value.specs.declared.value.Value.{Value}
use Rattle.base_schema.specs.declared.column.LineColumn.{LineColumn}
use Rattle.store_file_reader.specs.Field.{column_value}
use Rattle.store_file_reader.specs.Line.{is_bar, row_of}

-- as many fields as a line must have: none has a bar, bars part them, and one more may stand after
-- the last
pub record AreFieldsOf (columns : ℕ) (line : List ℕ) (fields : List (List ℕ)) : Type 0 where
  pub as_many : length fields ≡ columns
  pub no_bar : All (λ field. list_any is_bar field ≡ false) fields
  pub parted : (line ≡ join_with_byte 124 fields) ⊎ (line ≡ join_with_byte 124 fields ++ 124 ∷ [])

-- what a field says in its column
abbrev pub value_said : LineColumn × List ℕ → Result Value LineFault
value_said column = column_value column.0 column.1

-- the values of a line: each field says its own
pub record AreValuesOf (columns : List LineColumn) (line : List ℕ) (values : List Value) : Type 0
  where
    pub fields : List (List ℕ)
    pub parted : AreFieldsOf (length columns) line fields
    pub said : map value_said (zip columns fields) ≡ map Ok values

-- a line gives a row exactly where its fields say it
abbrev pub RowsSayTheirFields : Type 0
RowsSayTheirFields =
    (columns : List LineColumn) (line : List ℕ) (values : List Value) → 0 < length columns
    → (row_of columns line ≡ Ok values) ↔ AreValuesOf columns line values

-- the fault is that of the first field from the left that says no value
pub record IsFirstBadField (columns : List LineColumn) (line : List ℕ) (fault : LineFault) : Type 0
  where
    pub fields : List (List ℕ)
    pub parted : AreFieldsOf (length columns) line fields
    pub earlier : List (LineColumn × List ℕ)
    pub column : LineColumn × List ℕ
    pub later : List (LineColumn × List ℕ)
    pub values : List Value
    pub cut : zip columns fields ≡ earlier ++ column ∷ later
    pub good : map value_said earlier ≡ map Ok values
    pub bad : value_said column ≡ Err fault

-- what is wrong with a line: it has not as many fields, or a field says no value
abbrev pub IsBadLine : List LineColumn → List ℕ → LineFault → Type 0
IsBadLine columns line FieldCount = (fields : List (List ℕ))
    → ¬ AreFieldsOf (length columns) line fields
IsBadLine columns line fault = IsFirstBadField columns line fault

-- a line is refused exactly so
abbrev pub FirstBadFieldCounts : Type 0
FirstBadFieldCounts =
    (columns : List LineColumn) (line : List ℕ) (fault : LineFault) → 0 < length columns
    → (row_of columns line ≡ Err fault) ↔ IsBadLine columns line fault
