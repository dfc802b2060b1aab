-- Parts put together.
use Rattle.std.proofs.Common.{◌≡◌, ℕ, suc, ◌+◌, ◌/◌, ◌%◌, ◌<◌, List, [], ◌∷◌, ◌++◌, refl, sym, ap, ◌∙◌, arith, length, get_or}
use Rattle.std.specs.Prelude.{min, map, IsTrue, IfOk, Result, Ok, Err}
use Rattle.std.specs.Global.{Vec}
use Rattle.std.specs.List.{All}
use Rattle.std.proofs.lemmas.List.{length-map, map-append}
use Rattle.std.proofs.lemmas.List.Elements.{All-push}
use Rattle.std.specs.Fork.{slice_chunk}
use Rattle.base_row_laws.specs.Ranked.{Ranked, Relation}
use Rattle.base_value.specs.declared.value.Value.{Value}
use Rattle.base_columns.specs.Bags.{bag_rows, AreWide}
use Rattle.base_columns.specs.Lists.{one_list}
use Rattle.base_columns.proofs.RowLists.{one_list-push}
use Rattle.exec_parallel_scan.specs.Parts.{rows_of_part, is_made, ArePartsJoined, IsPartWide}
use Rattle.exec_parallel_scan.proofs.Chunks.{chunks_joined, mapped_at}

made_rows : {E : Type 0} (part : Result (Vec (Relation Value)) E) (rows : List (Ranked Value)) → IsTrue (is_made part) → IfOk part (λ b. bag_rows b.items ≡ rows) → rows_of_part part ≡ rows
made_rows (Ok b) rows t h = h
made_rows (Err e) rows t h = cc

-- parts of which each has what is made of a chunk have together what is made of the whole
pub parts_joined : {X E : Type 0} (g : List X → List (Ranked Value)) (size : ℕ) (xs : List X) (parts : List (Result (Vec (Relation Value)) E)) (rows : List (Ranked Value))
    → ((ys zs : List X) → g (ys ++ zs) ≡ g ys ++ g zs) → g [] ≡ []
    → ((n : ℕ) (d : Result (Vec (Relation Value)) E) → n < length parts → IfOk (get_or parts n d) (λ b. bag_rows b.items ≡ g (slice_chunk xs size n)))
    → 0 < size → length parts ≡ length xs / size + min 1 (length xs % size) → ArePartsJoined parts rows → rows ≡ g xs
parts_joined g size xs parts rows joins none each p e j =
    let l : length (map rows_of_part parts) ≡ length parts = length-map parts rows_of_part in
    j.rows_are ∙ chunks_joined g size xs (map rows_of_part parts) joins none
    (λ n h. mapped_at rows_of_part parts n (g (slice_chunk xs size n)) (omega (arith, h, l)) (λ d. made_rows (get_or parts n d) (g (slice_chunk xs size n)) (j.made n d (omega (arith, h, l))) (each n d (omega (arith, h, l)))))
    p (l ∙ e)

-- a part more
pub joined_push : {E : Type 0} (parts : List (Result (Vec (Relation Value)) E)) (part : Result (Vec (Relation Value)) E) (rows now : List (Ranked Value))
    → ArePartsJoined parts rows → IsTrue (is_made part) → now ≡ rows ++ rows_of_part part → ArePartsJoined (parts ++ part ∷ []) now
joined_push parts part rows now j t n = record {
  made = All-push (λ p. IsTrue (is_made p)) parts part j.made t;
  rows_are =
      n ∙ ap (λ l. l ++ rows_of_part part) j.rows_are
      ∙ sym (one_list-push (map rows_of_part parts) (rows_of_part part))
      ∙ ap one_list (sym (map-append rows_of_part parts (part ∷ [])));
}

-- an element in the middle
pub at_mid : {X : Type 0} (P : X → Type 0) (xs : List X) (x : X) (ys : List X) → All P (xs ++ x ∷ ys) → P x
at_mid P [] x ys a = a 0 x (omega arith)
at_mid P (z ∷ xs) x ys a = at_mid P xs x ys (λ k d h. a (suc k) d (omega (arith, h)))

pub joined_none : {E : Type 0} → ArePartsJoined {E = E} [] []
joined_none = record { made = λ k d h. absurd (omega (arith, h)); rows_are = refl }

-- what each part's batches are, they have this width
pub part_wide : {E : Type 0} (width : ℕ) (P : List (Relation Value) → Type 0) (part : Result (Vec (Relation Value)) E) → ((made : List (Relation Value)) → P made → AreWide width made)
    → IfOk part (λ b. P b.items) → IsPartWide width part
part_wide width P (Ok b) f h = f b.items h
part_wide width P (Err e) f h = tt

-- or these rows
pub part_has : {E : Type 0} (rows : List (Ranked Value)) (P : List (Relation Value) → Type 0) (part : Result (Vec (Relation Value)) E) → ((made : List (Relation Value)) → P made → bag_rows made ≡ rows)
    → IfOk part (λ b. P b.items) → IfOk part (λ b. bag_rows b.items ≡ rows)
part_has rows P (Ok b) f h = f b.items h
part_has rows P (Err e) f h = tt
