-- Groups by numbers.
use Rattle.std.proofs.Common.{◌≡◌, ℕ, suc, List, [], ◌∷◌, ◌++◌, Bool, true, map, refl, sym, ◌∙◌, ap, inl, inr}
use Rattle.std.specs.Prelude.{slice_index_or, nat_eq}
use Rattle.std.proofs.lemmas.Bool.{cases_Bool, true≢false}
use Rattle.std.proofs.lemmas.List.{map-id}
use Rattle.base_row_laws.specs.Ranked.{Ranked, ranked, true_rank}
use Rattle.base_row_laws.specs.Bags.{IsIdentity, has, each_once, top, bottom}
use Rattle.base_row_laws.specs.Rows.{same_row}
use Rattle.base_row_laws.specs.Operators.{least, greatest}
use Rattle.base_row_laws.specs.Aggregates.{aggregated}
use Rattle.base_row_laws.specs.Numbers.{place_in}
use Rattle.base_row_laws.specs.TableLaws.{with_number, groups_from}
use Rattle.base_row_laws.proofs.Lists.{Each-each_once, map-ext, map-ext_each, map-map}
use Rattle.base_row_laws.proofs.Groups.{top-map, bottom-map}
use Rattle.base_row_laws.proofs.Rows.{same_row_is}
use Rattle.base_row_laws.proofs.Standings.{each_has}
use Rattle.base_row_laws.proofs.LoopLists.{classes_by_numbers}
use Rattle.exec_hash_group.specs.GroupLaws.{grouped_rows, distinct_rows, GroupByNumbers, DistinctByNumbers, KeysAtFirstPlaces}

-- images of the elements with a number
pub with_images : {X Y : Type 0} (f : X → Y) (is : List ℕ) (xs : List X) (n : ℕ) → map f (with_number is xs n) ≡ with_number is (map f xs) n
with_images f [] xs n = refl
with_images f (i ∷ is) [] n = refl
with_images f (i ∷ is) (x ∷ xs) n = elim (cases_Bool (nat_eq i n)) [ inl t ↦ rw t (ap (λ l. f x ∷ l) (with_images f is xs n)) | inr g ↦ rw g (with_images f is xs n) ]

module _ {V : Type 0} where
  grouped : (items : List ((List V → V) × (List V → V))) (numbers : List ℕ) (xs : List (Ranked V)) (n : ℕ) (ks : List (List V))
      → groups_from (λ k ys. ranked (k ++ aggregated items ys) (least ys)) numbers xs n ks ≡ grouped_rows items numbers xs n ks
  grouped items numbers xs n [] = refl
  grouped items numbers xs n (k ∷ ks) =
      let ys = with_number numbers xs n in
      let ih = grouped items numbers xs (suc n) ks in
      let standings : least ys ≡ bottom true_rank (λ s. s) (with_number numbers (map (λ x. x.standing) xs) n) =
      sym (bottom-map true_rank (λ s. s) (λ (x : Ranked V). x.standing) ys) ∙ ap (bottom true_rank (λ s. s)) (with_images (λ (x : Ranked V). x.standing) numbers xs n) in
      let values : aggregated items ys ≡ map (λ a. a.1 (with_number numbers (map (λ x. a.0 x.values) xs) n)) items =
      map-ext (λ a. a.1 (map (λ y. a.0 y.values) ys)) (λ a. a.1 (with_number numbers (map (λ x. a.0 x.values) xs) n)) items (λ a. ap a.1 (with_images (λ (y : Ranked V). a.0 y.values) numbers xs n)) in
      ap (λ v. ranked (k ++ v) (least ys) ∷ groups_from (λ k ys. ranked (k ++ aggregated items ys) (least ys)) numbers xs (suc n) ks) values
      ∙ ap (λ s. ranked (k ++ map (λ a. a.1 (with_number numbers (map (λ x. a.0 x.values) xs) n)) items) s ∷ groups_from (λ k ys. ranked (k ++ aggregated items ys) (least ys)) numbers xs (suc n) ks) standings
      ∙ ap (λ l. ranked (k ++ map (λ a. a.1 (with_number numbers (map (λ x. a.0 x.values) xs) n)) items) (bottom true_rank (λ s. s) (with_number numbers (map (λ x. x.standing) xs) n)) ∷ l) ih

  once_each : (numbers : List ℕ) (xs : List (Ranked V)) (n : ℕ) (ks : List (List V)) → groups_from (λ k ys. ranked k (greatest ys)) numbers xs n ks ≡ distinct_rows numbers xs n ks
  once_each numbers xs n [] = refl
  once_each numbers xs n (k ∷ ks) =
      let ys = with_number numbers xs n in
      let standings : greatest ys ≡ top (λ s. s) (with_number numbers (map (λ x. x.standing) xs) n) =
      sym (top-map (λ s. s) (λ (x : Ranked V). x.standing) ys) ∙ ap (top (λ s. s)) (with_images (λ (x : Ranked V). x.standing) numbers xs n) in
      ap (λ s. ranked k s ∷ groups_from (λ k ys. ranked k (greatest ys)) numbers xs (suc n) ks) standings
      ∙ ap (λ l. ranked k (top (λ s. s) (with_number numbers (map (λ x. x.standing) xs) n)) ∷ l) (once_each numbers xs (suc n) ks)

pub group_by_numbers : {V : Type 0} → GroupByNumbers V
group_by_numbers {V} same is key items xs =
    let keys = map (λ x. key x.values) xs in
    classes_by_numbers (same_row same) (same_row_is same is) (λ x. key x.values) (λ k ys. ranked (k ++ aggregated items ys) (least ys)) xs
    ∙ grouped items (map (place_in (same_row same) (each_once (same_row same) keys)) keys) xs 0 (each_once (same_row same) keys)

pub distinct_by_numbers : {V : Type 0} → DistinctByNumbers V
distinct_by_numbers {V} same is xs =
    let keys = map (λ x. x.values) xs in
    classes_by_numbers (same_row same) (same_row_is same is) (λ x. x.values) (λ k ys. ranked k (greatest ys)) xs
    ∙ once_each (map (place_in (same_row same) (each_once (same_row same) keys)) keys) xs 0 (each_once (same_row same) keys)

-- an element at its first place
at_first : {X : Type 0} (same : X → X → Bool) (is : IsIdentity same) (none : X) (xs : List X) (x : X) → has same x xs ≡ true → slice_index_or xs (place_in same xs x) none ≡ x
at_first same is none [] x h = absurd (true≢false (sym h))
at_first same is none (y ∷ ys) x h = elim (cases_Bool (same x y)) [
  | inl t ↦ rw t (sym (is.tells x y t))
  | inr f ↦ (let h' : has same x ys ≡ true = rw f at h in rw f (at_first same is none ys x h'))
]

pub keys_at_first_places : {X : Type 0} → KeysAtFirstPlaces X
keys_at_first_places same is none xs =
    map-map (λ i. slice_index_or xs i none) (place_in same xs) (each_once same xs)
    ∙ map-ext_each (λ x. has same x xs ≡ true) (λ x. slice_index_or xs (place_in same xs x) none) (λ x. x) (each_once same xs)
    (Each-each_once (λ x. has same x xs ≡ true) same xs (each_has same is xs)) (λ x h. at_first same is none xs x h)
    ∙ map-id (each_once same xs)
