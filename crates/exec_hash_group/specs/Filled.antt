-- The places of a domain's groups, and of its rows that have none.
use Rattle.std.specs.Prelude.{◌≡◌, ℕ, suc, List, [], ◌∷◌, ◌++◌, ℤ, length}
use Rattle.std.specs.List.{All, range_with_len}
use Rattle.base_row_laws.specs.Ranked.{Ranked, Relation, ranked, true_rank}
use Rattle.base_row_laws.specs.Places.{places_where}
use Rattle.base_value.specs.declared.value.Value.{Value}
use Rattle.base_key_tables.specs.Keys.{same_two}
use Rattle.exec_row_keys.specs.Keys.{AreKeysOfTwo}
use Rattle.exec_hash_group.specs.Keys.{key_columns}

-- the places, or where there are none this one
abbrev pub or_place : List ℕ → ℕ → List ℕ
or_place [] own = own ∷ []
or_place (p ∷ ps) own = p ∷ ps

-- for each left key the places of the right ones that are the same, or where there are none its
-- own, counted from `own`
unfoldable pub places_from : ℕ → List (ℤ × ℤ) → List (ℤ × ℤ) → List ℕ
places_from own [] right = []
places_from own (key ∷ left) right = or_place (places_where (same_two key) right) own
    ++ places_from (suc own) left right

-- places by keys of two sides
pub record AreFilled (domain : List (List Value)) (n : ℕ) (groups : List (List Value)) (m : ℕ)
    (places : List ℕ) : Type 0 where
  pub left : List (ℤ × ℤ)
  pub right : List (ℤ × ℤ)
  pub keys : AreKeysOfTwo domain groups n m left right
  pub places_are : places ≡ places_from (length right) left right

-- all columns of a bag
pub record AreColumns (bag : Relation Value) (columns : List (List Value)) : Type 0 where
  pub columns_are : columns ≡ key_columns bag.rows (range_with_len 0 bag.width)
  pub wide : All (λ r. length r.values ≡ bag.width) bag.rows

-- the row of a domain without a group
abbrev pub filled_row : List Value → Ranked Value → Ranked Value
filled_row empty e = ranked (e.values ++ empty) true_rank
