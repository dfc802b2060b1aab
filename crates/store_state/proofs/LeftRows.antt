-- The rows that are left of a segment.
use Rattle.std.proofs.Common.{◌≡◌, ℕ, ℤ, zero, suc, ◌+◌, ◌-◌, ◌<◌, ◌≤◌, Bool, true, false, cond, not, ◌||◌, List, [], ◌∷◌, ◌++◌, length, take, map, get_or, inl, inr, Result, Ok, Err, refl, sym, ap, ◌∙◌, subst, arith, add-zero, zero-add, append_assoc}
use Rattle.std.specs.Prelude.{nat_eq, is_ok, MatchResult}
use Rattle.std.specs.List.{filter}
use Rattle.std.specs.List.Sorted.{IsNonDecreasing, IsBinarySearchResult}
use Rattle.std.specs.Ordering.{nat_cmp}
use Rattle.std.proofs.lemmas.Bool.{cases_lt, eq-eqb, ne_eqb}
use Rattle.std.proofs.lemmas.List.{append-nil, get_or_default, length-take-le, length_push, map-append, map-id, nil_from_length, take_all}
use Rattle.std.proofs.lemmas.List.Elements.{All-get_or, All-push, All-weaker, filter-append}
use Rattle.std.proofs.lemmas.List.Filters.{length-filter_both}
use Rattle.std.proofs.lemmas.List.Folds.{list_any-append, list_any_at, list_any_none}
use Rattle.std.proofs.lemmas.List.Sorted.{IsNonDecreasingBy-push, searched}
use Rattle.base_value.specs.declared.value.Value.{Value}
use Rattle.base_columns.specs.Lists.{AreBelow, gathered}
use Rattle.store_state.specs.Keys.{has_key, order_key}
use Rattle.store_state.specs.Parts.{AreDeleted, IsLeft, IsWithout, has_place, left_from, left_rows}
use Rattle.store_state.specs.Refresh.{without_keys}

not_there : (places : List ℕ) (place i k : ℕ) (d : ℕ)
    → (i ≤ length places) × ((j : ℕ) → j < i → get_or places j 0 < place) × ((j : ℕ) → i ≤ j → j < length places → place < get_or places j 0)
    → k < length places → place ≡ get_or places k d → ⊥
not_there places place i k d h less e =
    let at : get_or places k d ≡ get_or places k 0 = get_or_default places k d 0 less in
    elim (cases_lt k i) [
      | inl before ↦ let l = h.1 k before in absurd (omega (arith, l, at, e))
      | inr past ↦ let l = h.2 k past less in absurd (omega (arith, l, at, e))
    ]

-- what a search in ascending places found
found_place : (places : List ℕ) (place : ℕ) (r : Result ℕ ℕ)
    → MatchResult r (λ i. (i < length places) × (get_or places i 0 ≡ place))
    (λ i. (i ≤ length places) × ((k : ℕ) → k < i → get_or places k 0 < place) × ((k : ℕ) → i ≤ k → k < length places → place < get_or places k 0))
    → is_ok r ≡ has_place places place
found_place places place (Ok i) h = sym (list_any_at (nat_eq place) places i 0 h.0 (eq-eqb place (get_or places i 0) (sym h.1)))
found_place places place (Err i) h =
    sym (list_any_none (nat_eq place) places (λ k d less. ne_eqb place (get_or places k d) (λ e. not_there places place i k d h less e)))

pub place_found : (places : List ℕ) (place : ℕ) (r : Result ℕ ℕ) → IsNonDecreasing places → IsBinarySearchResult (λ y. nat_cmp y place) places r
    → is_ok r ≡ has_place places place
place_found places place r up found = found_place places place r (searched places place r found (λ i j low less. up i j 0 low less))

or_false : (a : Bool) → (a || false) ≡ a
or_false true = refl
or_false false = refl

or_true : (a : Bool) → (a || true) ≡ true
or_true true = refl
or_true false = refl

has_push : (places : List ℕ) (place p : ℕ) → has_place (places ++ place ∷ []) p ≡ (has_place places p || nat_eq p place)
has_push places place p = list_any-append (nat_eq p) places (place ∷ []) ∙ ap (λ b. has_place places p || b) (or_false (nat_eq p place))

-- a place past all of these is none of them, until it is put there
pub place_past : (places : List ℕ) (place : ℕ) → AreBelow place places → has_place places place ≡ false
place_past places place below =
    list_any_none (nat_eq place) places
    (All-weaker (λ p. p < place) (λ p. nat_eq place p ≡ false) (λ p less. ne_eqb place p (λ e. omega (arith, less, e))) places below)

place_put : (places : List ℕ) (place : ℕ) → has_place (places ++ place ∷ []) place ≡ true
place_put places place = has_push places place place ∙ ap (λ b. has_place places place || b) (eq-eqb place place refl) ∙ or_true (has_place places place)

other_place : (places : List ℕ) (place p : ℕ) → p < place → has_place (places ++ place ∷ []) p ≡ has_place places p
other_place places place p less =
    has_push places place p ∙ ap (λ b. has_place places p || b) (ne_eqb p place (λ e. omega (arith, less, e))) ∙ or_false (has_place places p)

-- one row more
one_more : (b : Bool) (row : List Value) (rest more : List (List Value)) → cond b (rest ++ more) (row ∷ (rest ++ more)) ≡ cond b rest (row ∷ rest) ++ more
one_more true row rest more = refl
one_more false row rest more = refl

last_one : (b : Bool) (row : List Value) → cond b [] (row ∷ []) ≡ [] ++ cond b [] (row ∷ [])
last_one b row = refl

from_more : (deleted : List ℕ) (p : ℕ) (rows : List (List Value)) (i : ℕ) → i < length rows
    → left_from deleted p (take (i + 1) rows) ≡ left_from deleted p (take i rows) ++ cond (has_place deleted (p + i)) [] (get_or rows i [] ∷ [])
unfolding left_from
from_more deleted p [] i less = absurd (omega (arith, less))
from_more deleted p (row ∷ rows) zero less = rw (add-zero p) refl
from_more deleted p (row ∷ rows) (suc i) less =
    let n : suc i + 1 ≡ suc (i + 1) = omega arith in
    let q : suc p + i ≡ p + suc i = omega arith in
    let e : left_from deleted (suc p) (take (i + 1) rows) ≡ left_from deleted (suc p) (take i rows) ++ cond (has_place deleted (p + suc i)) [] (get_or rows i [] ∷ []) =
    rw (← q) (from_more deleted (suc p) rows i (omega (arith, less))) in
    rw n (ap (λ rest. cond (has_place deleted p) rest (row ∷ rest)) e
    ∙ one_more (has_place deleted p) row (left_from deleted (suc p) (take i rows)) (cond (has_place deleted (p + suc i)) [] (get_or rows i [] ∷ [])))

pub left_more : (deleted : List ℕ) (rows : List (List Value)) (i : ℕ) → i < length rows
    → left_rows deleted (take (i + 1) rows) ≡ left_rows deleted (take i rows) ++ cond (has_place deleted i) [] (get_or rows i [] ∷ [])
left_more deleted rows i less =
    subst (λ p. left_from deleted 0 (take (i + 1) rows) ≡ left_from deleted 0 (take i rows) ++ cond (has_place deleted p) [] (get_or rows i [] ∷ []))
    (zero-add i) (from_more deleted 0 rows i less)

pub left_gone : (deleted : List ℕ) (rows : List (List Value)) (i : ℕ) → i < length rows → has_place deleted i ≡ true
    → left_rows deleted (take (i + 1) rows) ≡ left_rows deleted (take i rows)
left_gone deleted rows i less gone =
    left_more deleted rows i less ∙ ap (λ b. left_rows deleted (take i rows) ++ cond b [] (get_or rows i [] ∷ [])) gone
    ∙ append-nil (left_rows deleted (take i rows))

pub left_kept : (deleted : List ℕ) (rows : List (List Value)) (i : ℕ) → i < length rows → has_place deleted i ≡ false
    → left_rows deleted (take (i + 1) rows) ≡ left_rows deleted (take i rows) ++ get_or rows i [] ∷ []
left_kept deleted rows i less kept =
    left_more deleted rows i less ∙ ap (λ b. left_rows deleted (take i rows) ++ cond b [] (get_or rows i [] ∷ [])) kept

-- a place past the rows changes nothing
from_past : (deleted : List ℕ) (place p : ℕ) (rows : List (List Value)) → p + length rows ≤ place
    → left_from (deleted ++ place ∷ []) p rows ≡ left_from deleted p rows
unfolding left_from
from_past deleted place p [] most = refl
from_past deleted place p (row ∷ rows) most =
    ap (λ b. cond b (left_from (deleted ++ place ∷ []) (suc p) rows) (row ∷ left_from (deleted ++ place ∷ []) (suc p) rows)) (other_place deleted place p (omega (arith, most)))
    ∙ ap (λ rest. cond (has_place deleted p) rest (row ∷ rest)) (from_past deleted place (suc p) rows (omega (arith, most)))

-- no place deleted leaves all
from_none : (p : ℕ) (rows : List (List Value)) → left_from [] p rows ≡ rows
unfolding left_from
from_none p [] = refl
from_none p (row ∷ rows) = ap (λ rest. row ∷ rest) (from_none (suc p) rows)

pub left_all : (rows : List (List Value)) → left_rows [] rows ≡ rows
left_all rows = from_none 0 rows

pub none_deleted : (rows : List (List Value)) → AreDeleted [] rows
none_deleted rows = record {
  up = λ i j d low less. absurd (omega (arith, less));
  below = λ k d less. absurd (omega (arith, less));
  count = zero-add (length (left_rows [] rows)) ∙ ap length (left_all rows);
}

-- what is left of no rows
pub nothing_left : (deleted : List ℕ) → left_rows deleted [] ≡ []
unfolding left_from
nothing_left deleted = refl

pub without_none : (keys : List ℤ) (deleted : List ℕ) → IsWithout keys deleted [] []
without_none keys deleted = record {
  are = none_deleted [];
  left = left_all [] ∙ sym (ap (without_keys keys) (nothing_left deleted));
}

taken_rows : (rows : List (List Value)) (i : ℕ) → i < length rows → length (take i rows) ≡ i
taken_rows [] i less = absurd (omega (arith, less))
taken_rows (row ∷ rows) zero less = refl
taken_rows (row ∷ rows) (suc i) less = let e = taken_rows rows i (omega (arith, less)) in omega (arith, e)

up_more : (places : List ℕ) (place : ℕ) → IsNonDecreasing places → AreBelow place places → IsNonDecreasing (places ++ place ∷ [])
up_more places place up below =
    IsNonDecreasingBy-push (λ x. x) places place up
    (λ d some. let less : get_or places (length places - 1) d < place = All-get_or (λ p. p < place) places (length places - 1) d (omega (arith, some)) below in omega (arith, less))

-- a row that goes
pub row_goes : (more : List ℕ) (rows : List (List Value)) (i : ℕ) → i < length rows → AreDeleted more (take i rows)
    → AreDeleted (more ++ i ∷ []) (take (i + 1) rows) × (left_rows (more ++ i ∷ []) (take (i + 1) rows) ≡ left_rows more (take i rows))
row_goes more rows i less are =
    let long : length (take i rows) ≡ i = taken_rows rows i less in
    let longer : length (take (i + 1) rows) ≡ i + 1 = length-take-le (i + 1) rows (omega (arith, less)) in
    let below : AreBelow i more = subst (λ n. AreBelow n more) long are.below in
    let same : left_rows (more ++ i ∷ []) (take (i + 1) rows) ≡ left_rows more (take i rows) =
    left_gone (more ++ i ∷ []) rows i less (place_put more i) ∙ from_past more i 0 (take i rows) (omega (arith, long)) in
    let count : length more + length (left_rows more (take i rows)) ≡ length (take i rows) = are.count in (
      record {
        up = up_more more i are.up below;
        below = subst (λ n. AreBelow n (more ++ i ∷ [])) (sym longer) (All-push (λ p. p < i + 1) more i (All-weaker (λ p. p < i) (λ p. p < i + 1) (λ p l. omega (arith, l)) more below) (omega arith));
        count = omega (arith, length_push more i, ap length same, count, long, longer);
      },
      same,
    )

-- a row that stays
pub row_stays : (more : List ℕ) (rows : List (List Value)) (i : ℕ) → i < length rows → AreDeleted more (take i rows)
    → AreDeleted more (take (i + 1) rows) × (left_rows more (take (i + 1) rows) ≡ left_rows more (take i rows) ++ get_or rows i [] ∷ [])
row_stays more rows i less are =
    let long : length (take i rows) ≡ i = taken_rows rows i less in
    let longer : length (take (i + 1) rows) ≡ i + 1 = length-take-le (i + 1) rows (omega (arith, less)) in
    let below : AreBelow i more = subst (λ n. AreBelow n more) long are.below in
    let same : left_rows more (take (i + 1) rows) ≡ left_rows more (take i rows) ++ get_or rows i [] ∷ [] = left_kept more rows i less (place_past more i below) in
    let count : length more + length (left_rows more (take i rows)) ≡ length (take i rows) = are.count in (
      record {
        up = are.up;
        below = subst (λ n. AreBelow n more) (sym longer) (All-weaker (λ p. p < i) (λ p. p < i + 1) (λ p l. omega (arith, l)) more below);
        count = omega (arith, length_push (left_rows more (take i rows)) (get_or rows i []), ap length same, count, long, longer);
      },
      same,
    )

-- the rows without some keys, one more
without_push : (keys : List ℤ) (rows : List (List Value)) (row : List Value)
    → without_keys keys (rows ++ row ∷ []) ≡ without_keys keys rows ++ cond (not (has_key keys (order_key row))) (row ∷ []) []
without_push keys rows row = filter-append (λ r. not (has_key keys (order_key r))) rows (row ∷ [])

without_hit : (keys : List ℤ) (rows : List (List Value)) (row : List Value) → has_key keys (order_key row) ≡ true
    → without_keys keys (rows ++ row ∷ []) ≡ without_keys keys rows
without_hit keys rows row hit =
    without_push keys rows row ∙ ap (λ b. without_keys keys rows ++ cond (not b) (row ∷ []) []) hit ∙ append-nil (without_keys keys rows)

without_miss : (keys : List ℤ) (rows : List (List Value)) (row : List Value) → has_key keys (order_key row) ≡ false
    → without_keys keys (rows ++ row ∷ []) ≡ without_keys keys rows ++ row ∷ []
without_miss keys rows row miss =
    without_push keys rows row ∙ ap (λ b. without_keys keys rows ++ cond (not b) (row ∷ []) []) miss

more_by : (keys : List ℤ) (deleted : List ℕ) (rows : List (List Value)) (more new : List ℕ) (i : ℕ) (gone hit : Bool) → i < length rows
    → has_place deleted i ≡ gone → has_key keys (order_key (get_or rows i [])) ≡ hit
    → new ≡ cond (gone || hit) (more ++ i ∷ []) more → IsWithout keys deleted (take i rows) more → IsWithout keys deleted (take (i + 1) rows) new
more_by keys deleted rows more new i true hit less g h is without =
    let goes = row_goes more rows i less without.are in
    rw is (record {
      are = goes.0;
      left = goes.1 ∙ without.left ∙ sym (ap (without_keys keys) (left_gone deleted rows i less g));
    })
more_by keys deleted rows more new i false true less g h is without =
    let goes = row_goes more rows i less without.are in
    rw is (record {
      are = goes.0;
      left = goes.1 ∙ without.left ∙ sym (ap (without_keys keys) (left_kept deleted rows i less g) ∙ without_hit keys (left_rows deleted (take i rows)) (get_or rows i []) h);
    })
more_by keys deleted rows more new i false false less g h is without =
    let stays = row_stays more rows i less without.are in
    rw is (record {
      are = stays.0;
      left = stays.1 ∙ ap (λ l. l ++ get_or rows i [] ∷ []) without.left
          ∙ sym (ap (without_keys keys) (left_kept deleted rows i less g) ∙ without_miss keys (left_rows deleted (take i rows)) (get_or rows i []) h);
    })

pub without_more : (keys : List ℤ) (deleted : List ℕ) (rows : List (List Value)) (more new : List ℕ) (i : ℕ) → i < length rows
    → new ≡ cond (has_place deleted i || has_key keys (order_key (get_or rows i []))) (more ++ i ∷ []) more
    → IsWithout keys deleted (take i rows) more → IsWithout keys deleted (take (i + 1) rows) new
without_more keys deleted rows more new i less is without =
    more_by keys deleted rows more new i (has_place deleted i) (has_key keys (order_key (get_or rows i []))) less refl refl is without

-- as many rows as before are the same rows
full : {A : Type 0} (p : A → Bool) (x : A) (xs : List A) (b : Bool) → p x ≡ b → (length (filter p xs) ≡ length xs → filter p xs ≡ xs)
    → length (cond b (x ∷ filter p xs) (filter p xs)) ≡ suc (length xs) → cond b (x ∷ filter p xs) (filter p xs) ≡ x ∷ xs
full p x xs true e rest long = ap (λ l. x ∷ l) (rest (omega (arith, long)))
full p x xs false e rest long =
    let both = length-filter_both p (λ y. not (p y)) (λ y. refl) xs in absurd (omega (arith, long, both))

filter_full : {A : Type 0} (p : A → Bool) (xs : List A) → length (filter p xs) ≡ length xs → filter p xs ≡ xs
filter_full p [] long = refl
filter_full p (x ∷ xs) long = full p x xs (p x) refl (filter_full p xs) long

pub without_same : (keys : List ℤ) (deleted more : List ℕ) (rows : List (List Value)) → AreDeleted deleted rows → IsWithout keys deleted rows more
    → length more ≡ length deleted → left_rows deleted rows ≡ without_keys keys (left_rows deleted rows)
without_same keys deleted more rows are without same =
    let a : length deleted + length (left_rows deleted rows) ≡ length rows = are.count in
    let b : length more + length (left_rows more rows) ≡ length rows = without.are.count in
    sym (filter_full (λ row. not (has_key keys (order_key row))) (left_rows deleted rows) (omega (arith, a, b, same, ap length without.left)))

-- the places of the rows that are left, row by row
pub record AreLeftUntil (deleted : List ℕ) (rows : List (List Value)) (i : ℕ) (places : List ℕ) : Type 0 where
  pub below : AreBelow i places
  pub left : gathered [] rows places ≡ left_rows deleted (take i rows)

pub left_begin : (deleted : List ℕ) (rows : List (List Value)) → AreLeftUntil deleted rows 0 []
left_begin deleted rows = record {
  below = λ k d less. absurd (omega (arith, less));
  left = sym (nothing_left deleted);
}

pub left_skip : (deleted : List ℕ) (rows : List (List Value)) (i : ℕ) (places : List ℕ) → i < length rows → has_place deleted i ≡ true
    → AreLeftUntil deleted rows i places → AreLeftUntil deleted rows (i + 1) places
left_skip deleted rows i places less gone so_far = record {
  below = All-weaker (λ p. p < i) (λ p. p < i + 1) (λ p l. omega (arith, l)) places so_far.below;
  left = so_far.left ∙ sym (left_gone deleted rows i less gone);
}

pub left_take : (deleted : List ℕ) (rows : List (List Value)) (i : ℕ) (places : List ℕ) → i < length rows → has_place deleted i ≡ false
    → AreLeftUntil deleted rows i places → AreLeftUntil deleted rows (i + 1) (places ++ i ∷ [])
left_take deleted rows i places less kept so_far = record {
  below = All-push (λ p. p < i + 1) places i (All-weaker (λ p. p < i) (λ p. p < i + 1) (λ p l. omega (arith, l)) places so_far.below) (omega arith);
  left = map-append (λ p. get_or rows p []) places (i ∷ []) ∙ ap (λ l. l ++ get_or rows i [] ∷ []) so_far.left ∙ sym (left_kept deleted rows i less kept);
}

pub left_end : (deleted : List ℕ) (rows : List (List Value)) (i : ℕ) (places : List ℕ) → i ≡ length rows → AreLeftUntil deleted rows i places → IsLeft deleted rows places
left_end deleted rows i places e so_far = record {
  below = subst (λ n. AreBelow n places) e so_far.below;
  left = so_far.left ∙ ap (left_rows deleted) (take_all i rows (omega (arith, e)));
}

-- what is made of the rows that are left, one more
pub made_begin : {A : Type 0} (make : List Value → A) (before : List A) (deleted : List ℕ) → before ≡ before ++ map make (left_rows deleted [])
made_begin make before deleted = sym (ap (λ rows. before ++ map make rows) (nothing_left deleted) ∙ append-nil before)

made_by : {A : Type 0} (make : List Value → A) (deleted : List ℕ) (rows : List (List Value)) (before made new : List A) (i : ℕ) (gone : Bool) → i < length rows
    → has_place deleted i ≡ gone → new ≡ cond gone made (made ++ make (get_or rows i []) ∷ []) → made ≡ before ++ map make (left_rows deleted (take i rows))
    → new ≡ before ++ map make (left_rows deleted (take (i + 1) rows))
made_by make deleted rows before made new i true less g is so_far = is ∙ so_far ∙ ap (λ l. before ++ map make l) (sym (left_gone deleted rows i less g))
made_by make deleted rows before made new i false less g is so_far =
    is ∙ ap (λ l. l ++ make (get_or rows i []) ∷ []) so_far
    ∙ append_assoc before (map make (left_rows deleted (take i rows))) (make (get_or rows i []) ∷ [])
    ∙ ap (λ l. before ++ l) (sym (map-append make (left_rows deleted (take i rows)) (get_or rows i [] ∷ [])))
    ∙ ap (λ l. before ++ map make l) (sym (left_kept deleted rows i less g))

pub made_more : {A : Type 0} (make : List Value → A) (deleted : List ℕ) (rows : List (List Value)) (before made new : List A) (i : ℕ) → i < length rows
    → new ≡ cond (has_place deleted i) made (made ++ make (get_or rows i []) ∷ []) → made ≡ before ++ map make (left_rows deleted (take i rows))
    → new ≡ before ++ map make (left_rows deleted (take (i + 1) rows))
made_more make deleted rows before made new i less is so_far = made_by make deleted rows before made new i (has_place deleted i) less refl is so_far

pub rows_begin : (before : List (List Value)) (deleted : List ℕ) → before ≡ before ++ left_rows deleted []
rows_begin before deleted = sym (ap (λ rows. before ++ rows) (nothing_left deleted) ∙ append-nil before)

pub rows_more : (deleted : List ℕ) (rows before made new : List (List Value)) (i : ℕ) → i < length rows
    → new ≡ cond (has_place deleted i) made (made ++ get_or rows i [] ∷ []) → made ≡ before ++ left_rows deleted (take i rows)
    → new ≡ before ++ left_rows deleted (take (i + 1) rows)
rows_more deleted rows before made new i less is so_far =
    made_more (λ row. row) deleted rows before made new i less is (so_far ∙ ap (λ l. before ++ l) (sym (map-id (left_rows deleted (take i rows)))))
    ∙ ap (λ l. before ++ l) (map-id (left_rows deleted (take (i + 1) rows)))

left_by : (deleted : List ℕ) (rows : List (List Value)) (i : ℕ) (places new : List ℕ) (gone : Bool) → i < length rows → has_place deleted i ≡ gone
    → new ≡ cond gone places (places ++ i ∷ []) → AreLeftUntil deleted rows i places → AreLeftUntil deleted rows (i + 1) new
left_by deleted rows i places new true less g is so_far = rw is (left_skip deleted rows i places less g so_far)
left_by deleted rows i places new false less g is so_far = rw is (left_take deleted rows i places less g so_far)

pub left_next : (deleted : List ℕ) (rows : List (List Value)) (i : ℕ) (places new : List ℕ) → i < length rows
    → new ≡ cond (has_place deleted i) places (places ++ i ∷ []) → AreLeftUntil deleted rows i places → AreLeftUntil deleted rows (i + 1) new
left_next deleted rows i places new less is so_far = left_by deleted rows i places new (has_place deleted i) less refl is so_far

-- as many rows left as there are
pub all_left : (deleted : List ℕ) (rows : List (List Value)) → AreDeleted deleted rows → length (left_rows deleted rows) ≡ length rows → left_rows deleted rows ≡ rows
all_left deleted rows are long =
    let count : length deleted + length (left_rows deleted rows) ≡ length rows = are.count in
    let none : deleted ≡ [] = nil_from_length deleted (omega (arith, count, long)) in
    ap (λ d. left_rows d rows) none ∙ left_all rows

pub ruleset parts = (left_all, none_deleted)
