-- Rows by their places in batches.
use Rattle.std.specs.Prelude.{ℕ, ◌<◌, List, [], map, length, slice_index_or}
use Rattle.std.specs.List.{All}
use Rattle.base_row_laws.specs.Ranked.{Ranked, Relation, relation}
use Rattle.base_value.specs.declared.value.Value.{Value}
use Rattle.base_columns.specs.Batches.{row_at}
use Rattle.exec_ordered_rows.specs.declared.place.RowPlace.{RowPlace}

-- the rows of the batch at a place, none past the end
abbrev pub rows_of : List (Relation Value) → ℕ → List (Ranked Value)
rows_of batches i = (slice_index_or batches i (relation 0 [])).rows

-- the values of the row at a place, none where there is no row
abbrev pub placed_row : List (Relation Value) → RowPlace → List Value
placed_row batches place = (row_at (rows_of batches place.batch) place.row).values

-- the values of the rows at these places, in their order
abbrev pub placed_rows : List (Relation Value) → List RowPlace → List (List Value)
placed_rows batches places = map (placed_row batches) places

-- there is a row at the place
pub record IsThere (batches : List (Relation Value)) (place : RowPlace) : Type 0 where
  pub batch : place.batch < length batches
  pub row : place.row < length (rows_of batches place.batch)

-- there is one at each
abbrev pub AreThere : List (Relation Value) → List RowPlace → Type 0
AreThere batches places = All (IsThere batches) places
