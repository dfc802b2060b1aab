-- The rows of a segment that are of orders of some keys.
use Rattle.std.proofs.Common.{◌≡◌, ℕ, ℤ, ◌+◌, ◌<◌, Bool, true, false, cond, not, ◌||◌, List, [], ◌∷◌, ◌++◌, length, take, get_or, refl, sym, ap, ◌∙◌}
use Rattle.std.proofs.lemmas.List.{append-nil}
use Rattle.std.proofs.lemmas.List.Elements.{filter-append}
use Rattle.std.specs.List.{list_any}
use Rattle.base_value.specs.declared.value.Value.{Value}
use Rattle.base_columns.specs.Lists.{one_list}
use Rattle.store_state.specs.Keys.{has_key, order_key}
use Rattle.store_state.specs.Moves.{with_keys}
use Rattle.store_state.specs.Parts.{HasNone, IsWith, has_place, left_rows}
use Rattle.store_state.proofs.LeftRows.{left_all, left_gone, left_kept, none_deleted, nothing_left, row_goes, row_stays}
use Rattle.store_state.proofs.PartLists.{rows_more}

pub with_none : (keys : List ℤ) (deleted : List ℕ) → IsWith keys deleted [] []
with_none keys deleted = record {
  are = none_deleted [];
  left = left_all [] ∙ sym (ap (with_keys keys) (nothing_left deleted));
}

-- one row more
with_push : (keys : List ℤ) (rows : List (List Value)) (row : List Value)
    → with_keys keys (rows ++ row ∷ []) ≡ with_keys keys rows ++ cond (has_key keys (order_key row)) (row ∷ []) []
with_push keys rows row = filter-append (λ r. has_key keys (order_key r)) rows (row ∷ [])

with_hit : (keys : List ℤ) (rows : List (List Value)) (row : List Value) → has_key keys (order_key row) ≡ true
    → with_keys keys (rows ++ row ∷ []) ≡ with_keys keys rows ++ row ∷ []
with_hit keys rows row hit = with_push keys rows row ∙ ap (λ b. with_keys keys rows ++ cond b (row ∷ []) []) hit

with_miss : (keys : List ℤ) (rows : List (List Value)) (row : List Value) → has_key keys (order_key row) ≡ false
    → with_keys keys (rows ++ row ∷ []) ≡ with_keys keys rows
with_miss keys rows row miss =
    with_push keys rows row ∙ ap (λ b. with_keys keys rows ++ cond b (row ∷ []) []) miss ∙ append-nil (with_keys keys rows)

more_by : (keys : List ℤ) (deleted : List ℕ) (rows : List (List Value)) (more new : List ℕ) (i : ℕ) (gone hit : Bool) → i < length rows
    → has_place deleted i ≡ gone → has_key keys (order_key (get_or rows i [])) ≡ hit
    → new ≡ cond (gone || not hit) (more ++ i ∷ []) more → IsWith keys deleted (take i rows) more → IsWith keys deleted (take (i + 1) rows) new
more_by keys deleted rows more new i true hit less g h is so_far =
    let goes = row_goes more rows i less so_far.are in
    rw is (record {
      are = goes.0;
      left = goes.1 ∙ so_far.left ∙ sym (ap (with_keys keys) (left_gone deleted rows i less g));
    })
more_by keys deleted rows more new i false true less g h is so_far =
    let stays = row_stays more rows i less so_far.are in
    rw is (record {
      are = stays.0;
      left = stays.1 ∙ ap (λ l. l ++ get_or rows i [] ∷ []) so_far.left
          ∙ sym (ap (with_keys keys) (left_kept deleted rows i less g) ∙ with_hit keys (left_rows deleted (take i rows)) (get_or rows i []) h);
    })
more_by keys deleted rows more new i false false less g h is so_far =
    let goes = row_goes more rows i less so_far.are in
    rw is (record {
      are = goes.0;
      left = goes.1 ∙ so_far.left ∙ sym (ap (with_keys keys) (left_kept deleted rows i less g) ∙ with_miss keys (left_rows deleted (take i rows)) (get_or rows i []) h);
    })

pub with_more : (keys : List ℤ) (deleted : List ℕ) (rows : List (List Value)) (more new : List ℕ) (i : ℕ) → i < length rows
    → new ≡ cond (has_place deleted i || not (has_key keys (order_key (get_or rows i [])))) (more ++ i ∷ []) more
    → IsWith keys deleted (take i rows) more → IsWith keys deleted (take (i + 1) rows) new
with_more keys deleted rows more new i less is so_far =
    more_by keys deleted rows more new i (has_place deleted i) (has_key keys (order_key (get_or rows i []))) less refl refl is so_far

-- a part more
pub with_keys_more : (keys : List ℤ) (parts : List (List (List Value))) (k : ℕ) (part : List (List Value)) → k < length parts → part ≡ get_or parts k part
    → with_keys keys (one_list (take (k + 1) parts)) ≡ with_keys keys (one_list (take k parts)) ++ with_keys keys part
with_keys_more keys parts k part less is =
    ap (with_keys keys) (rows_more parts k part less is) ∙ filter-append (λ row. has_key keys (order_key row)) (one_list (take k parts)) part

-- no row is found
or_parts : (a b : Bool) → (a || b) ≡ false → (a ≡ false) × (b ≡ false)
or_parts true b e = cc
or_parts false b e = (refl, e)

pub none_found : (keys : List ℤ) (rows : List (List Value)) → HasNone keys rows → with_keys keys rows ≡ []
none_found keys [] none = refl
none_found keys (row ∷ rows) none =
    let both = or_parts (has_key keys (order_key row)) (list_any (λ r. has_key keys (order_key r)) rows) none in
    ap (λ b. cond b (row ∷ with_keys keys rows) (with_keys keys rows)) both.0 ∙ none_found keys rows both.1

pub none_pushed : (keys : List ℤ) (before rows : List (List Value)) → HasNone keys rows → before ≡ before ++ with_keys keys rows
none_pushed keys before rows none = sym (ap (λ l. before ++ l) (none_found keys rows none) ∙ append-nil before)
