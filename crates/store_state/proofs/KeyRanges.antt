-- Keys outside the range of a part's keys.
use Rattle.std.proofs.Common.{◌≡◌, ℕ, suc, ◌+◌, ◌<◌, Bool, true, false, cond, not, ◌&&◌, ◌||◌, List, [], ◌∷◌, ◌++◌, length, get_or, take, ℤ, refl, sym, ap, ◌∙◌, subst, arith, pos}
use Rattle.std.specs.List.{filter, list_any}
use Rattle.std.specs.Int.{int_max, int_min}
use Rattle.std.specs.Ordering.{int_eq}
use Rattle.std.proofs.lemmas.Bool.Decides.{Decides-int_eq}
use Rattle.std.proofs.lemmas.Int.{ints}
use Rattle.std.proofs.lemmas.List.{append-nil, take_more}
use Rattle.std.proofs.lemmas.List.Elements.{All-push, All-weaker, filter-append}
use Rattle.std.proofs.lemmas.List.Folds.{list_any-append, list_any_none}
use Rattle.base_value.specs.declared.value.Value.{Value}
use Rattle.store_state.specs.Found.{TellsKeys, TellsLines}
use Rattle.store_state.specs.Keys.{has_key, has_line, is_same_line, line_keys, number_at, order_key, order_keys}
use Rattle.store_state.specs.Parts.{AreBetween, AreNear, HasNone, IsStoredPart, has_place, is_between, left_from, left_rows}
use Rattle.store_state.specs.Refresh.{without_keys}

or_parts : (a b : Bool) → (a || b) ≡ false → (a ≡ false) × (b ≡ false)
or_parts true b e = cc
or_parts false b e = (refl, e)

or_false : (a : Bool) → (a || false) ≡ a
or_false true = refl
or_false false = refl

-- a key in the range is none of those outside
missed : (least greatest key k : ℤ) (b : Bool) → int_eq key k ≡ b → is_between least greatest k ≡ false → is_between least greatest key ≡ true → b ≡ false
missed least greatest key k true e out within =
    let same : key ≡ k = (Decides-int_eq key k).0 e in
    let there : is_between least greatest k ≡ true = subst (λ n. is_between least greatest n ≡ true) same within in
    cc
missed least greatest key k false e out within = refl

outside : (least greatest key : ℤ) (keys : List ℤ) → list_any (is_between least greatest) keys ≡ false → is_between least greatest key ≡ true → has_key keys key ≡ false
outside least greatest key [] out within = refl
outside least greatest key (k ∷ keys) out within =
    let both = or_parts (is_between least greatest k) (list_any (is_between least greatest) keys) out in
    ap (λ b. b || has_key keys key) (missed least greatest key k (int_eq key k) refl both.0 within) ∙ outside least greatest key keys both.1 within

none_between : (keys : List ℤ) (least greatest : ℤ) (rows : List (List Value)) → AreBetween least greatest rows → list_any (is_between least greatest) keys ≡ false → HasNone keys rows
none_between keys least greatest rows between out =
    list_any_none (λ row. has_key keys (order_key row)) rows
    (λ k d less. outside least greatest (order_key (get_or rows k d)) keys out (between k d less))

-- nor are the rows that are left
kept_none : (keys : List ℤ) (gone : Bool) (row : List Value) (rest : List (List Value)) → has_key keys (order_key row) ≡ false → HasNone keys rest → HasNone keys (cond gone rest (row ∷ rest))
kept_none keys true row rest out none = none
kept_none keys false row rest out none = ap (λ b. b || list_any (λ r. has_key keys (order_key r)) rest) out ∙ none

from_none : (keys : List ℤ) (deleted : List ℕ) (p : ℕ) (rows : List (List Value)) → HasNone keys rows → HasNone keys (left_from deleted p rows)
unfolding left_from
from_none keys deleted p [] none = refl
from_none keys deleted p (row ∷ rows) none =
    let both = or_parts (has_key keys (order_key row)) (list_any (λ r. has_key keys (order_key r)) rows) none in
    kept_none keys (has_place deleted p) row (left_from deleted (suc p) rows) both.0 (from_none keys deleted (suc p) rows both.1)

pub part_has_none : (keys : List ℤ) (deleted : List ℕ) (least greatest : ℤ) (up : Bool) (rows : List (List Value)) → IsStoredPart deleted least greatest up rows
    → list_any (is_between least greatest) keys ≡ false → HasNone keys (left_rows deleted rows)
part_has_none keys deleted least greatest up rows part out =
    from_none keys deleted 0 rows (none_between keys least greatest rows part.between out)

-- no row goes
pub none_goes : (keys : List ℤ) (rows : List (List Value)) → HasNone keys rows → rows ≡ without_keys keys rows
none_goes keys [] none = refl
none_goes keys (row ∷ rows) none =
    let both = or_parts (has_key keys (order_key row)) (list_any (λ r. has_key keys (order_key r)) rows) none in
    ap (λ rest. row ∷ rest) (none_goes keys rows both.1)
    ∙ sym (ap (λ b. cond (not b) (row ∷ without_keys keys rows) (without_keys keys rows)) both.0)

-- a wanted key is none of theirs
apart : (wanted : List ℤ) (key k : ℤ) (b : Bool) → int_eq key k ≡ b → has_key wanted k ≡ false → has_key wanted key ≡ true → b ≡ false
apart wanted key k true e out among =
    let same : key ≡ k = (Decides-int_eq key k).0 e in
    let there : has_key wanted k ≡ true = subst (λ n. has_key wanted n ≡ true) same among in
    cc
apart wanted key k false e out among = refl

no_key : (wanted : List ℤ) (key : ℤ) (rows : List (List Value)) → HasNone wanted rows → has_key wanted key ≡ true → has_key (order_keys rows) key ≡ false
no_key wanted key [] none among = refl
no_key wanted key (row ∷ rows) none among =
    let both = or_parts (has_key wanted (order_key row)) (list_any (λ r. has_key wanted (order_key r)) rows) none in
    ap (λ b. b || has_key (order_keys rows) key) (apart wanted key (order_key row) (int_eq key (order_key row)) refl both.0 among) ∙ no_key wanted key rows both.1 among

pub keys_passed : (wanted before found : List ℤ) (rows : List (List Value)) → HasNone wanted rows → TellsKeys wanted before found → TellsKeys wanted (before ++ order_keys rows) found
keys_passed wanted before found rows none tells key among =
    tells key among
    ∙ sym (list_any-append (int_eq key) before (order_keys rows) ∙ ap (λ b. has_key before key || b) (no_key wanted key rows none among) ∙ or_false (has_key before key))

no_line : (wanted : List ℤ) (line : ℤ × ℤ) (rows : List (List Value)) → HasNone wanted rows → has_key wanted line.0 ≡ true → has_line (line_keys rows) line ≡ false
no_line wanted line [] none among = refl
no_line wanted line (row ∷ rows) none among =
    let both = or_parts (has_key wanted (order_key row)) (list_any (λ r. has_key wanted (order_key r)) rows) none in
    ap (λ b. (b && int_eq line.1 (number_at 3 row)) || has_line (line_keys rows) line) (apart wanted line.0 (order_key row) (int_eq line.0 (order_key row)) refl both.0 among)
    ∙ no_line wanted line rows both.1 among

pub lines_passed : (wanted : List ℤ) (before found : List (ℤ × ℤ)) (rows : List (List Value)) → HasNone wanted rows → TellsLines wanted before found → TellsLines wanted (before ++ line_keys rows) found
lines_passed wanted before found rows none tells line among =
    tells line among
    ∙ sym (list_any-append (is_same_line line) before (line_keys rows) ∙ ap (λ b. has_line before line || b) (no_line wanted line rows none among) ∙ or_false (has_line before line))

wider : (least greatest key x : ℤ) → is_between least greatest x ≡ true → is_between (int_min least key) (int_max greatest key) x ≡ true
wider least greatest key x within = grind (arith, ints)

itself : (least greatest key : ℤ) → is_between (int_min least key) (int_max greatest key) key ≡ true
itself least greatest key = grind (arith, ints)

-- a range with one row more
pub range_more : (least greatest key : ℤ) (rows : List (List Value)) (i : ℕ) → i < length rows → key ≡ order_key (get_or rows i [])
    → AreBetween least greatest (take i rows) → AreBetween (int_min least key) (int_max greatest key) (take (i + 1) rows)
range_more least greatest key rows i less is between =
    subst (AreBetween (int_min least key) (int_max greatest key)) (sym (take_more rows i [] less))
    (All-push (λ row. is_between (int_min least key) (int_max greatest key) (order_key row) ≡ true) (take i rows) (get_or rows i [])
    (All-weaker (λ row. is_between least greatest (order_key row) ≡ true) (λ row. is_between (int_min least key) (int_max greatest key) (order_key row) ≡ true)
    (λ row within. wider least greatest key (order_key row) within) (take i rows) between)
    (subst (λ k. is_between (int_min least key) (int_max greatest key) k ≡ true) is (itself least greatest key)))

-- of a row between them, the keys between them tell as well as all
near_step : (least greatest key k : ℤ) (keys : List ℤ) (b : Bool) → is_between least greatest k ≡ b → is_between least greatest key ≡ true
    → has_key (filter (is_between least greatest) keys) key ≡ has_key keys key
    → has_key (cond b (k ∷ filter (is_between least greatest) keys) (filter (is_between least greatest) keys)) key ≡ (int_eq key k || has_key keys key)
near_step least greatest key k keys true e within same = ap (λ b. int_eq key k || b) same
near_step least greatest key k keys false e within same =
    same ∙ sym (ap (λ b. b || has_key keys key) (missed least greatest key k (int_eq key k) refl e within))

near_same : (least greatest key : ℤ) (keys : List ℤ) → is_between least greatest key ≡ true → has_key (filter (is_between least greatest) keys) key ≡ has_key keys key
near_same least greatest key [] within = refl
near_same least greatest key (k ∷ keys) within =
    near_step least greatest key k keys (is_between least greatest k) refl within (near_same least greatest key keys within)

pub are_near : (keys : List ℤ) (least greatest : ℤ) (rows : List (List Value)) → AreBetween least greatest rows
    → AreNear keys (filter (is_between least greatest) keys) rows
are_near keys least greatest rows between = λ k d less. near_same least greatest (order_key (get_or rows k d)) keys (between k d less)

-- one key more that may be near
near_put : (least greatest key : ℤ) (b : Bool) → is_between least greatest key ≡ b → filter (is_between least greatest) (key ∷ []) ≡ cond b (key ∷ []) []
near_put least greatest key b e = ap (λ c. cond c (key ∷ []) []) e

pub near_more : (least greatest : ℤ) (keys near new : List ℤ) (k : ℕ) (b : Bool) → k < length keys → is_between least greatest (get_or keys k (pos 0)) ≡ b
    → new ≡ cond b (near ++ get_or keys k (pos 0) ∷ []) near → near ≡ filter (is_between least greatest) (take k keys)
    → new ≡ filter (is_between least greatest) (take (k + 1) keys)
near_more least greatest keys near new k true less e is so_far =
    is ∙ ap (λ l. l ++ get_or keys k (pos 0) ∷ []) so_far
    ∙ sym (ap (filter (is_between least greatest)) (take_more keys k (pos 0) less) ∙ filter-append (is_between least greatest) (take k keys) (get_or keys k (pos 0) ∷ [])
    ∙ ap (λ l. filter (is_between least greatest) (take k keys) ++ l) (near_put least greatest (get_or keys k (pos 0)) true e))
near_more least greatest keys near new k false less e is so_far =
    is ∙ so_far
    ∙ sym (ap (filter (is_between least greatest)) (take_more keys k (pos 0) less) ∙ filter-append (is_between least greatest) (take k keys) (get_or keys k (pos 0) ∷ [])
    ∙ ap (λ l. filter (is_between least greatest) (take k keys) ++ l) (near_put least greatest (get_or keys k (pos 0)) false e)
    ∙ append-nil (filter (is_between least greatest) (take k keys)))
