-- What rows have in the columns that they are grouped by.
use Rattle.std.specs.Prelude.{ℕ, List, map}
use Rattle.base_row_laws.specs.Ranked.{Ranked}
use Rattle.base_row_laws.specs.Rows.{columns}
use Rattle.base_value.specs.declared.value.Value.{Value}
use Rattle.base_value.specs.declared.value.Value.TheVariants.{Null}
use Rattle.base_columns.specs.Batches.{column_at}

-- each row's values in these columns
abbrev pub key_rows : List ℕ → List (Ranked Value) → List (List Value)
key_rows by rows = map (λ r. columns Null by r.values) rows

-- the same column by column
abbrev pub key_columns : List (Ranked Value) → List ℕ → List (List Value)
key_columns rows by = map (column_at rows) by
