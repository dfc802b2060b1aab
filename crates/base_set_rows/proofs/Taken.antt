-- Set operations by numbers of rows.
use Rattle.std.proofs.Common.{◌≡◌, ℕ, zero, suc, ◌+◌, List, [], ◌∷◌, ◌++◌, Bool, Some, refl, sym, ◌∙◌, ap, arith, length, take, drop, inl, inr}
use Rattle.std.specs.Prelude.{map, replicate, slice_get, slice_index_or, nat_eq}
use Rattle.std.specs.List.{flat_map, range_with_len}
use Rattle.std.proofs.lemmas.Bool.{cases_Bool}
use Rattle.std.proofs.lemmas.List.{append_assoc, length-append, length-map, map-append}
use Rattle.base_row_laws.specs.Ranked.{Ranked, ranked}
use Rattle.base_row_laws.specs.Bags.{IsIdentity, each_once}
use Rattle.base_row_laws.specs.Rows.{same_row}
use Rattle.base_row_laws.specs.Operators.{least}
use Rattle.base_row_laws.specs.Domains.{values_of}
use Rattle.base_row_laws.specs.Numbers.{place_in}
use Rattle.base_row_laws.specs.TableLaws.{with_number}
use Rattle.base_row_laws.proofs.Rows.{same_row_is}
use Rattle.base_row_laws.proofs.NumberLists.{AllApart, distinct_each_once}
use Rattle.base_set_rows.proofs.Numbers.{rows_of_number}
use Rattle.base_set_rows.specs.declared.kind.ClassKind.{ClassKind}
use Rattle.base_set_rows.specs.SetOperations.{copies, alike, class_rows}
use Rattle.base_set_rows.specs.Numbered.{times, number_copies, numbers_taken, ByNumbers}

slice_get_mid : {X : Type 0} (xs ys : List X) (x : X) → slice_get (xs ++ x ∷ ys) (length xs) ≡ Some x
slice_get_mid [] ys x = refl
slice_get_mid (z ∷ zs) ys x = slice_get_mid zs ys x

take-front : {X : Type 0} (xs ys : List X) → take (length xs) (xs ++ ys) ≡ xs
take-front [] ys = refl
take-front (x ∷ xs) ys = ap (λ l. x ∷ l) (take-front xs ys)

drop-front : {X : Type 0} (xs ys : List X) → drop (length xs) (xs ++ ys) ≡ ys
drop-front [] ys = refl
drop-front (x ∷ xs) ys = drop-front xs ys

-- what stands at a place, of each element
mapped_at : {X Y : Type 0} (f : X → Y) (xs : List X) (n : ℕ) (x : X) (none : Y) → slice_get xs n ≡ Some x → slice_index_or (map f xs) n none ≡ f x
mapped_at f [] n x none e = absurd (let e' : slice_get [] n ≡ Some x = e in cc)
mapped_at f (y ∷ ys) zero x none e = ap f (let e' : Some y ≡ Some x = e in cc)
mapped_at f (y ∷ ys) (suc n) x none e = mapped_at f ys n x none e

map-copies : {X Y : Type 0} (f : X → Y) (x : X) (n : ℕ) → map f (replicate n x) ≡ replicate n (f x)
map-copies f x zero = refl
map-copies f x (suc n) = ap (λ l. f x ∷ l) (map-copies f x n)

-- a number stands as often as it has rows
times_is : {R : Type 0} (g : R → ℕ) (xs : List R) (n : ℕ) → length (with_number (map g xs) xs n) ≡ times n (map g xs)
times_is g [] n = refl
times_is g (x ∷ xs) n =
    let ih = times_is g xs n in
    elim (cases_Bool (nat_eq (g x) n)) [ inl t ↦ rw t (omega (arith, ih)) | inr f ↦ rw f (omega (arith, ih)) ]

module _ {V : Type 0} (same : V → V → Bool) (is : IsIdentity same) (kind : ClassKind) (all : Bool) (xs ys : List (Ranked V)) where
  copies_are : (ds : List (List V)) (n : ℕ) (k : List V) → AllApart (same_row same) (same_row_is same is) ds → slice_get ds n ≡ Some k
      → copies kind all (length (alike same k xs)) (length (alike same k ys)) ≡ number_copies kind all (length xs) (map (place_in (same_row same) ds) (values_of (xs ++ ys))) n
  copies_are ds n k apart at =
      let P = place_in (same_row same) ds in
      let values : List (Ranked V) → List (List V) = map (λ (x : Ranked V). x.values) in
      let ris = same_row_is same is in
      let one : (us : List (Ranked V)) → length (alike same k us) ≡ times n (map P (values us)) = λ us.
      ap length (sym (rows_of_number (same_row same) ris (λ (x : Ranked V). x.values) ds n k apart at us))
      ∙ ap (λ l. length (with_number l us n)) (map-map' P us)
      ∙ times_is (λ (x : Ranked V). P x.values) us n
      ∙ ap (times n) (sym (map-map' P us)) in
      let split : map P (values (xs ++ ys)) ≡ map P (values xs) ++ map P (values ys) =
      ap (map P) (map-append (λ (x : Ranked V). x.values) xs ys) ∙ map-append P (values xs) (values ys) in
      let long : length xs ≡ length (map P (values xs)) = sym (length-map (values xs) P ∙ length-map xs (λ (x : Ranked V). x.values)) in
      let front : take (length xs) (map P (values (xs ++ ys))) ≡ map P (values xs) =
      ap (λ m. take m (map P (values (xs ++ ys)))) long ∙ ap (take (length (map P (values xs)))) split ∙ take-front (map P (values xs)) (map P (values ys)) in
      let back : drop (length xs) (map P (values (xs ++ ys))) ≡ map P (values ys) =
      ap (λ m. drop m (map P (values (xs ++ ys)))) long ∙ ap (drop (length (map P (values xs)))) split ∙ drop-front (map P (values xs)) (map P (values ys)) in
      ap (λ m. copies kind all m (length (alike same k ys))) (one xs ∙ ap (times n) (sym front))
      ∙ ap (λ m. copies kind all (times n (take (length xs) (map P (values (xs ++ ys))))) m) (one ys ∙ ap (times n) (sym back))
    where
      map-map' : (P : List V → ℕ) (us : List (Ranked V)) → map P (map (λ (x : Ranked V). x.values) us) ≡ map (λ (x : Ranked V). P x.values) us
      map-map' P [] = refl
      map-map' P (u ∷ us) = ap (λ l. P u.values ∷ l) (map-map' P us)

  classes_are : (ds pre ks : List (List V)) (none : Ranked V) → AllApart (same_row same) (same_row_is same is) ds → ds ≡ pre ++ ks
      → flat_map (class_rows same kind all xs ys) ks
      ≡ map (λ n. slice_index_or (map (λ k. ranked k (least (alike same k (xs ++ ys)))) ds) n none)
      (flat_map (λ n. replicate (number_copies kind all (length xs) (map (place_in (same_row same) ds) (values_of (xs ++ ys))) n) n) (range_with_len (length pre) (length ks)))
  classes_are ds pre [] none apart e = refl
  classes_are ds pre (k ∷ ks) none apart e =
      let n = length pre in
      let row : List V → Ranked V = λ k. ranked k (least (alike same k (xs ++ ys))) in
      let at : ℕ → Ranked V = λ n. slice_index_or (map row ds) n none in
      let C : ℕ → ℕ = number_copies kind all (length xs) (map (place_in (same_row same) ds) (values_of (xs ++ ys))) in
      let rest : ℕ → List ℕ = λ m. flat_map (λ n. replicate (C n) n) (range_with_len m (length ks)) in
      let here : slice_get ds n ≡ Some k = ap (λ l. slice_get l n) e ∙ slice_get_mid pre ks k in
      let more : ds ≡ (pre ++ k ∷ []) ++ ks = e ∙ sym (append_assoc pre (k ∷ []) ks) in
      let long : length (pre ++ k ∷ []) ≡ n + 1 = length-append pre (k ∷ []) ∙ (omega arith) in
      ap (λ l. l ++ flat_map (class_rows same kind all xs ys) ks)
      (ap (λ m. replicate m (row k)) (copies_are ds n k apart here) ∙ ap (λ r. replicate (C n) r) (sym (mapped_at row ds n k none here)) ∙ sym (map-copies at n (C n)))
      ∙ ap (λ l. map at (replicate (C n) n) ++ l) (classes_are ds (pre ++ k ∷ []) ks none apart more ∙ ap (λ m. map at (rest m)) long)
      ∙ sym (map-append at (replicate (C n) n) (rest (n + 1)))

pub by_numbers : {V : Type 0} (same : V → V → Bool) → IsIdentity same → ByNumbers same
unfolding numbers_taken
by_numbers {V} same is kind all xs ys none =
    let vs = values_of (xs ++ ys) in
    let ds : List (List V) = each_once (same_row same) vs in
    let row : List V → Ranked V = λ k. ranked k (least (alike same k (xs ++ ys))) in
    let at : ℕ → Ranked V = λ n. slice_index_or (map row ds) n none in
    let C : ℕ → ℕ = number_copies kind all (length xs) (map (place_in (same_row same) ds) vs) in
    classes_are same is kind all xs ys ds [] ds none (distinct_each_once (same_row same) (same_row_is same is) vs) refl
    ∙ ap (λ m. map at (flat_map (λ n. replicate (C n) n) (range_with_len 0 m))) (sym (length-map ds row))
