-- Parts of a table: stored rows without those at deleted places.
use Rattle.std.specs.Prelude.{◌≡◌, ℕ, ℤ, suc, ◌+◌, ◌≤◌, ◌<◌, ◌≤ℤ◌, Bool, true, false, ◌&&◌}
use Rattle.std.specs.Prelude.{List, []}
use Rattle.std.specs.Prelude.{◌∷◌, length, nat_eq, int_le, slice_index_or, if◌then◌else◌}
use Rattle.std.specs.List.{All, list_any}
use Rattle.std.specs.List.Sorted.{IsNonDecreasing}
use Rattle.base_columns.specs.Lists.{AreBelow, gathered}
use Rattle.base_value.specs.declared.value.Value.{Value}
use Rattle.store_state.specs.Keys.{has_key, order_key}
use Rattle.store_state.specs.Moves.{with_keys}
use Rattle.store_state.specs.Refresh.{without_keys}

-- the place is one of these
abbrev pub has_place : List ℕ → ℕ → Bool
has_place places place = list_any (nat_eq place) places

-- of the rows from a place on, those whose places are not deleted
unfoldable pub left_from : List ℕ → ℕ → List (List Value) → List (List Value)
left_from deleted place [] = []
left_from deleted place (row ∷ rows) =
    if has_place deleted place then left_from deleted (suc place) rows
    else row ∷ left_from deleted (suc place) rows

-- the rows that are left without those at deleted places
abbrev pub left_rows : List ℕ → List (List Value) → List (List Value)
left_rows deleted rows = left_from deleted 0 rows

-- deleted places ascend, and each is that of a row
pub record AreDeleted (deleted : List ℕ) (rows : List (List Value)) : Type 0 where
  pub up : IsNonDecreasing deleted
  pub below : AreBelow (length rows) deleted
  pub count : length deleted + length (left_rows deleted rows) ≡ length rows

-- the places of the rows that are left
pub record IsLeft (deleted : List ℕ) (rows : List (List Value)) (places : List ℕ) : Type 0 where
  pub below : AreBelow (length rows) places
  pub left : gathered [] rows places ≡ left_rows deleted rows

-- more deleted places: also those of the rows of orders of these keys
pub record IsWithout (keys : List ℤ) (deleted : List ℕ) (rows : List (List Value)) (more : List ℕ) :
    Type 0 where
  pub are : AreDeleted more rows
  pub left : left_rows more rows ≡ without_keys keys (left_rows deleted rows)

-- deleted places of all rows but those of orders of these keys that were left
pub record IsWith (keys : List ℤ) (deleted : List ℕ) (rows : List (List Value)) (more : List ℕ) :
    Type 0 where
  pub are : AreDeleted more rows
  pub left : left_rows more rows ≡ with_keys keys (left_rows deleted rows)

-- the key lies between these
abbrev pub is_between : ℤ → ℤ → ℤ → Bool
is_between least greatest key = int_le least key && int_le key greatest

-- the keys of the rows' orders lie between these
abbrev pub AreBetween : ℤ → ℤ → List (List Value) → Type 0
AreBetween least greatest rows = All (λ row. is_between least greatest (order_key row) ≡ true) rows

-- no row is of an order of these keys
abbrev pub HasNone : List ℤ → List (List Value) → Type 0
HasNone keys rows = list_any (λ row. has_key keys (order_key row)) rows ≡ false

-- some keys tell as well as all whether a row is of an order of these keys
abbrev pub AreNear : List ℤ → List ℤ → List (List Value) → Type 0
AreNear keys near rows =
    All (λ row. has_key near (order_key row) ≡ has_key keys (order_key row)) rows

-- the keys of the orders of the first n rows ascend
abbrev pub Ascend : ℕ → List (List Value) → Type 0
Ascend count rows = (i j : ℕ) → i ≤ j → j < count
    → order_key (slice_index_or rows i []) ≤ℤ order_key (slice_index_or rows j [])

-- what a part keeps of a segment of these rows: the deleted places, between which keys its orders
-- lie, and whether it is known that they ascend
pub record IsStoredPart (deleted : List ℕ) (least greatest : ℤ) (up : Bool)
    (rows : List (List Value)) : Type 0 where
  pub are : AreDeleted deleted rows
  pub between : AreBetween least greatest rows
  pub ascend : up ≡ true → Ascend (length rows) rows
