-- Segments under way.
use Rattle.std.specs.Prelude.{◌≡◌, ℕ, ◌+◌, ◌≤◌, List, [], ◌∷◌, ◌++◌, length}
use Rattle.std.specs.List.{All}
use Rattle.base_row_laws.specs.Ranked.{Relation}
use Rattle.base_value.specs.declared.value.Value.{Value}
use Rattle.base_columns.specs.Lists.{one_list}
use Rattle.base_columns.specs.Tables.{IsOpen, plain_rows}
use Rattle.store_versions.specs.Segments.{AreApart, IsShort}

-- full segments, and the rows after them that are not stored yet and go into the next segment
pub record IsJoining (full : List (List (List Value))) (rest : Relation Value) : Type 0 where
  pub is_open : IsOpen rest
  pub short : All IsShort full
  pub apart : AreApart (full ++ plain_rows rest.rows ∷ [])

-- the same rows, now with room for n more in the next segment, which does not fit in one with
-- the segment before it
pub record HasRoom (count : ℕ) (full : List (List (List Value))) (rest : Relation Value)
    (new : List (List (List Value))) (next : Relation Value) : Type 0 where
  pub is_open : IsOpen next
  pub width : next.width ≡ rest.width
  pub room : length next.rows + count ≤ 4096
  pub rows : one_list new ++ plain_rows next.rows ≡ one_list full ++ plain_rows rest.rows
  pub short : All IsShort new
  pub apart : (more : List (List Value)) → length more ≡ count
      → AreApart (new ++ (plain_rows next.rows ++ more) ∷ [])
