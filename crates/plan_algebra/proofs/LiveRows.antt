-- Rows taken by place: at True, and of their width.
use Rattle.std.proofs.Common.{◌≡◌, ℕ, ◌<◌, List, [], ◌∷◌, zero, suc, refl, ap, ◌∙◌, length}
use Rattle.std.specs.Prelude.{slice_index_or}
use Rattle.std.specs.List.{All}
use Rattle.std.proofs.lemmas.List.{length-map}
use Rattle.std.proofs.lemmas.List.Elements.{All-map, All-weaker, All-get_or}
use Rattle.base_row_laws.specs.Ranked.{ranked, true_rank}
use Rattle.base_value.specs.declared.value.Value.{Value}
use Rattle.base_columns.specs.Lists.{AreBelow, gathered}
use Rattle.base_columns.specs.Tables.{standing_rows}

at_true : (rows : List (List Value)) (i : ℕ) → slice_index_or (standing_rows rows) i (ranked [] true_rank) ≡ ranked (slice_index_or rows i []) true_rank
at_true [] zero = refl
at_true [] (suc i) = refl
at_true (r ∷ rows) zero = refl
at_true (r ∷ rows) (suc i) = at_true rows i

pub gathered_stand : (rows : List (List Value)) (places : List ℕ) → gathered (ranked [] true_rank) (standing_rows rows) places ≡ standing_rows (gathered [] rows places)
gathered_stand rows [] = refl
gathered_stand rows (i ∷ places) = ap (λ r. r ∷ gathered (ranked [] true_rank) (standing_rows rows) places) (at_true rows i) ∙ ap (λ l. ranked (slice_index_or rows i []) true_rank ∷ l) (gathered_stand rows places)

pub length-gathered : (rows : List (List Value)) (places : List ℕ) → length (gathered [] rows places) ≡ length places
length-gathered rows places = length-map places (λ i. slice_index_or rows i [])

pub ruleset live = (gathered_stand, length-gathered)

pub gathered_wide : (rows : List (List Value)) (places : List ℕ) (w : ℕ) → All (λ row. length row ≡ w) rows → AreBelow (length rows) places → All (λ row. length row ≡ w) (gathered [] rows places)
gathered_wide rows places w all below =
    All-map (λ row. length row ≡ w) (λ i. slice_index_or rows i []) places
    (All-weaker (λ i. i < length rows) (λ i. length (slice_index_or rows i []) ≡ w) (λ i h. All-get_or (λ row. length row ≡ w) rows i [] h all) places below)
