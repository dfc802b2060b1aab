-- Groups by numbers of their keys.
use Rattle.std.specs.Prelude.{◌≡◌, ℕ, suc, List, [], ◌∷◌, ◌++◌, Bool, map, slice_index_or}
use Rattle.base_row_laws.specs.Ranked.{Ranked, ranked, true_rank}
use Rattle.base_row_laws.specs.Bags.{IsIdentity, each_once, top, bottom}
use Rattle.base_row_laws.specs.Rows.{same_row}
use Rattle.base_row_laws.specs.Operators.{group_by, distinct}
use Rattle.base_row_laws.specs.Aggregates.{aggregated}
use Rattle.base_row_laws.specs.Numbers.{numbers_of}
use Rattle.base_row_laws.specs.TableLaws.{with_number}
use Rattle.base_key_tables.specs.Distinct.{first_places}

-- For each key, which has the numbers from n on: its values, the aggregates of the rows with its
-- number, and the least of their standings.
abbrev pub grouped_rows : {V : Type 0} → List ((List V → V) × (List V → V)) → List ℕ
    → List (Ranked V) → ℕ → List (List V) → List (Ranked V)
grouped_rows items numbers xs n [] = []
grouped_rows items numbers xs n (k ∷ ks) =
    ranked (k ++ map (λ a. a.1 (with_number numbers (map (λ x. a.0 x.values) xs) n)) items)
    (bottom true_rank (λ s. s) (with_number numbers (map (λ x. x.standing) xs) n))
    ∷ grouped_rows items numbers xs (suc n) ks

-- for each key, which has the numbers from n on: its values at the greatest standing of the rows
-- with its number
abbrev pub distinct_rows : {V : Type 0} → List ℕ → List (Ranked V) → ℕ → List (List V)
    → List (Ranked V)
distinct_rows numbers xs n [] = []
distinct_rows numbers xs n (k ∷ ks) =
    ranked k (top (λ s. s) (with_number numbers (map (λ x. x.standing) xs) n))
    ∷ distinct_rows numbers xs (suc n) ks

-- GROUP BY is made of the numbers of the keys, list for list.
abbrev pub GroupByNumbers : (V : Type 0) → Type 0
GroupByNumbers V = (same : V → V → Bool) → IsIdentity same
    → (key : List V → List V) (items : List ((List V → V) × (List V → V))) (xs : List (Ranked V))
    → let keys = map (λ x. key x.values) xs in
    group_by same key (aggregated items) xs
    ≡ grouped_rows items (numbers_of (same_row same) keys) xs 0 (each_once (same_row same) keys)

-- DISTINCT is made of the numbers of the rows, list for list.
abbrev pub DistinctByNumbers : (V : Type 0) → Type 0
DistinctByNumbers V = (same : V → V → Bool) → IsIdentity same → (xs : List (Ranked V))
    → let keys = map (λ x. x.values) xs in
    distinct same xs ≡ distinct_rows (numbers_of (same_row same) keys) xs 0
    (each_once (same_row same) keys)

-- The keys stand at their first places.
abbrev pub KeysAtFirstPlaces : (X : Type 0) → Type 0
KeysAtFirstPlaces X = (same : X → X → Bool) → IsIdentity same → (none : X) (xs : List X)
    → map (λ i. slice_index_or xs i none) (first_places same xs) ≡ each_once same xs
