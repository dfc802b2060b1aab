-- The rows that a condition keeps.
use Rattle.std.specs.Prelude.{◌≡◌, ℕ, suc, min, List, [], ◌∷◌, ◌++◌, length}
use Rattle.base_row_laws.specs.Ranked.{Ranked, ranked}
use Rattle.base_row_laws.specs.Rows.{keep}
use Rattle.base_value.specs.declared.truth.Standing.{Standing}
use Rattle.base_value.specs.declared.truth.Truth.{Truth}
use Rattle.base_value.specs.declared.value.Value.{Value}
use Rattle.base_value.specs.Truth.{standing_rank, truth_rank}
use Rattle.base_columns.specs.Lists.{AreBelow}

-- from a place on: the row of each place at the lesser of its standing and its truth, where that is
-- above Unknown
unfoldable pub kept_from : (ℕ → List Value) → ℕ → List Standing → List Truth → List (Ranked Value)
kept_from row i [] ts = []
kept_from row i (s ∷ ss) [] = []
kept_from row i (s ∷ ss) (t ∷ ts) =
    keep (row i) (min (standing_rank s) (truth_rank t)) ++ kept_from row (suc i) ss ts

-- the rows of these places, at these standings
unfoldable pub rows_at : (ℕ → List Value) → List ℕ → List Standing → List (Ranked Value)
rows_at row [] ss = []
rows_at row (i ∷ places) [] = []
rows_at row (i ∷ places) (s ∷ ss) = ranked (row i) (standing_rank s) ∷ rows_at row places ss

-- the places and standings of what is kept
pub record IsKept (ss : List Standing) (ts : List Truth) (places : List ℕ)
    (kept : List Standing) : Type 0 where
  pub long : length places ≡ length kept
  pub below : AreBelow (length ss) places
  pub rows : (row : ℕ → List Value) → rows_at row places kept ≡ kept_from row 0 ss ts
