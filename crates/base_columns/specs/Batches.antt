-- Rows that lie in columns.
use Rattle.std.specs.Prelude.{◌≡◌, ℕ, zero, suc, min, List, [], ◌∷◌, ◌++◌, map, length}
use Rattle.std.specs.Prelude.{slice_index_or}
use Rattle.base_row_laws.specs.Ranked.{Ranked, ranked, Relation, relation, true_rank}
use Rattle.base_value.specs.declared.truth.Standing.{Standing}
use Rattle.base_value.specs.declared.value.Value.{Value}
use Rattle.base_value.specs.declared.value.Value.TheVariants.{Null}
use Rattle.base_value.specs.Truth.{standing_rank}
use Rattle.base_columns.specs.Lists.{gathered}

-- the values of a place, one of each column
abbrev pub cells : List (List Value) → ℕ → List Value
cells columns i = map (λ c. slice_index_or c i Null) columns

-- the rows from a place on
unfoldable pub rows_from : List (List Value) → ℕ → List Standing → List (Ranked Value)
rows_from columns i [] = []
rows_from columns i (s ∷ ss) =
    ranked (cells columns i) (standing_rank s) ∷ rows_from columns (suc i) ss

-- the relation of these columns and the rows' standings
unfoldable pub column_relation : List (List Value) → List Standing → Relation Value
column_relation columns ss = relation (length columns) (rows_from columns 0 ss)

-- each column with one value more
unfoldable pub put_row : List (List Value) → List Value → List (List Value)
put_row [] vs = []
put_row (c ∷ cs) [] = c ∷ cs
put_row (c ∷ cs) (v ∷ vs) = (c ++ v ∷ []) ∷ put_row cs vs

-- each column has n values
unfoldable pub AreLong : ℕ → List (List Value) → Type 0
AreLong n [] = Unit {0}
AreLong n (c ∷ cs) = (length c ≡ n) × AreLong n cs

-- the row at a place, counted from 0
abbrev pub row_at : List (Ranked Value) → ℕ → Ranked Value
row_at rows i = slice_index_or rows i (ranked [] true_rank)

-- the values of one column, row by row
abbrev pub column_at : List (Ranked Value) → ℕ → List Value
column_at rows j = map (λ r. slice_index_or r.values j Null) rows

-- the columns at these places of a row's values
abbrev pub projected : List ℕ → Ranked Value → Ranked Value
projected places r = ranked (gathered Null r.values places) r.standing

-- the rows of these columns from a place on, each at the standing of a row of a list
abbrev pub rows_beside : List (List Value) → ℕ → List (Ranked Value) → List (Ranked Value)
rows_beside columns i [] = []
rows_beside columns i (r ∷ rs) =
    ranked (cells columns i) r.standing ∷ rows_beside columns (suc i) rs

-- each left row before the right row of its place, at the lesser of their standings
abbrev pub joined_rows : List (Ranked Value) → List (Ranked Value) → List (Ranked Value)
joined_rows [] ys = []
joined_rows (x ∷ xs) [] = []
joined_rows (x ∷ xs) (y ∷ ys) =
    ranked (x.values ++ y.values) (min x.standing y.standing) ∷ joined_rows xs ys

-- each row with the value of its place after its own
abbrev pub longer_rows : List (Ranked Value) → List Value → List (Ranked Value)
longer_rows [] vs = []
longer_rows (r ∷ rs) [] = []
longer_rows (r ∷ rs) (v ∷ vs) = ranked (r.values ++ v ∷ []) r.standing ∷ longer_rows rs vs

-- the first n columns of the rows
abbrev pub first_columns : List (Ranked Value) → ℕ → List (List Value)
first_columns rows zero = []
first_columns rows (suc n) = first_columns rows n ++ column_at rows n ∷ []
