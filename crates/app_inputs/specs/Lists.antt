-- Lists of rows of tables.
use Rattle.std.specs.Prelude.{ℕ, ◌<◌, List, [], length, slice_index_or}
use Rattle.base_value.specs.declared.value.Value.{Value}
use Rattle.base_schema.specs.Kinds.{RowsAreOf}
use Rattle.base_schema.specs.declared.table.TableName.{TableName}
use Rattle.base_schema.specs.declared.table.TableName.TheVariants.{Region}

-- each list's rows are of the kinds of the table at its place
abbrev pub TablesHaveKinds : List TableName → List (List (List Value)) → Type 0
TablesHaveKinds tables lists =
    (k : ℕ) → k < length lists
    → RowsAreOf (slice_index_or tables k Region) (slice_index_or lists k [])
