-- What the found keys tell decides the causes.
use Rattle.std.proofs.Common.{◌≡◌, Bool, true, false, cond, not, ◌&&◌, ◌||◌, List, [], ◌∷◌, ◌++◌, Option, Some, None, ℤ, refl, sym, ap, ◌∙◌, subst}
use Rattle.std.specs.List.{AllByRecursion}
use Rattle.std.specs.Ordering.{int_eq}
use Rattle.std.proofs.lemmas.Bool.Decides.{Decides-int_eq}
use Rattle.std.proofs.lemmas.List.Folds.{list_any-append}
use Rattle.base_refusals.specs.declared.refresh.Cause.{Cause}
use Rattle.base_refusals.specs.declared.refresh.Cause.TheVariants.{OrderExists, OrderTwice, LineTwice, StrayLine, UnknownOrder, KeyTwice, LineExists}
use Rattle.base_value.specs.declared.value.Value.{Value}
use Rattle.store_state.specs.Found.{HasSameKeys, TellsKeys, TellsLines}
use Rattle.store_state.specs.Keys.{has_key, has_line, is_same_line, order_key}
use Rattle.store_state.specs.Refresh.{delete_cause, first_cause, line_cause, or_cause, order_cause, without_keys}

same_key : (key : ℤ) → int_eq key key ≡ true
same_key key = (Decides-int_eq key key).1 refl

or_left : (a b : Bool) → a ≡ true → (a || b) ≡ true
or_left true b e = refl
or_left false b e = cc

or_right : (a b : Bool) → b ≡ true → (a || b) ≡ true
or_right true b e = refl
or_right false b e = e

-- each of some keys is among others
each_among : (others keys : List ℤ) → ((key : ℤ) → has_key keys key ≡ true → has_key others key ≡ true)
    → AllByRecursion (λ key. has_key others key ≡ true) keys
each_among others [] h = tt
each_among others (k ∷ keys) h =
    (h k (or_left (int_eq k k) (has_key keys k) (same_key k)), each_among others keys (λ key e. h key (or_right (int_eq key k) (has_key keys key) e)))

-- tests that agree at each item give the same first cause
first_cause_alike : {A : Type 0} (f g : List A → A → Option Cause) (P : A → Type 0)
    → ((earlier : List A) (x : A) → P x → f earlier x ≡ g earlier x)
    → (earlier items : List A) → AllByRecursion P items → first_cause f earlier items ≡ first_cause g earlier items
first_cause_alike f g P same earlier [] h = refl
first_cause_alike f g P same earlier (x ∷ items) h =
    ap (λ c. or_cause c (first_cause f (earlier ++ x ∷ []) items)) (same earlier x h.0)
    ∙ ap (λ c. or_cause (g earlier x) c) (first_cause_alike f g P same (earlier ++ x ∷ []) items h.1)

pub orders_alike : (present found keys wanted : List ℤ) → HasSameKeys wanted keys → TellsKeys wanted present found
    → first_cause (order_cause found) [] keys ≡ first_cause (order_cause present) [] keys
orders_alike present found keys wanted same tells =
    first_cause_alike (order_cause found) (order_cause present) (λ key. has_key keys key ≡ true)
    (λ earlier key among.
    ap (λ b. cond b (Some (OrderExists key)) (cond (has_key earlier key) (Some (OrderTwice key)) None)) (tells key (same key ∙ among)))
    [] keys (each_among keys keys (λ key e. e))

pub deletes_alike : (present found keys wanted : List ℤ) → HasSameKeys wanted keys → TellsKeys wanted present found
    → first_cause (delete_cause found) [] keys ≡ first_cause (delete_cause present) [] keys
deletes_alike present found keys wanted same tells =
    first_cause_alike (delete_cause found) (delete_cause present) (λ key. has_key keys key ≡ true)
    (λ earlier key among.
    ap (λ b. cond (not b) (Some (UnknownOrder key)) (cond (has_key earlier key) (Some (KeyTwice key)) None)) (tells key (same key ∙ among)))
    [] keys (each_among keys keys (λ key e. e))

-- where a lineitem's order is known, whether the state has it decides; else it does not matter
line_alike : (wanted : List ℤ) (present found earlier : List (ℤ × ℤ)) (line : ℤ × ℤ) (b : Bool) → has_key wanted line.0 ≡ b
    → TellsLines wanted present found → line_cause wanted found earlier line ≡ line_cause wanted present earlier line
line_alike wanted present found earlier line true e tells =
    ap (λ there. cond (not (has_key wanted line.0)) (Some (StrayLine line.0))
    (cond there (Some (LineExists line.0 line.1)) (cond (has_line earlier line) (Some (LineTwice line.0 line.1)) None)))
    (tells line e)
line_alike wanted present found earlier line false e tells = rw e refl

all_units : {A : Type 0} (items : List A) → AllByRecursion (λ x. Unit {0}) items
all_units [] = tt
all_units (x ∷ items) = (tt, all_units items)

pub lines_alike : (wanted : List ℤ) (present found lines : List (ℤ × ℤ)) → TellsLines wanted present found
    → first_cause (line_cause wanted found) [] lines ≡ first_cause (line_cause wanted present) [] lines
lines_alike wanted present found lines tells =
    first_cause_alike (line_cause wanted found) (line_cause wanted present) (λ line. Unit {0})
    (λ earlier line u. line_alike wanted present found earlier line (has_key wanted line.0) refl tells)
    [] lines (all_units lines)

-- the set of the orders' keys serves as the keys themselves
pub lines_of_set : (wanted orders : List ℤ) (present lines : List (ℤ × ℤ)) → HasSameKeys wanted orders
    → first_cause (line_cause wanted present) [] lines ≡ first_cause (line_cause orders present) [] lines
lines_of_set wanted orders present lines same =
    first_cause_alike (line_cause wanted present) (line_cause orders present) (λ line. Unit {0})
    (λ earlier line u.
    ap (λ b. cond (not b) (Some (StrayLine line.0)) (cond (has_line present line) (Some (LineExists line.0 line.1)) (cond (has_line earlier line) (Some (LineTwice line.0 line.1)) None)))
    (same line.0))
    [] lines (all_units lines)

pub without_alike : (wanted keys : List ℤ) → HasSameKeys wanted keys → (rows : List (List Value)) → without_keys wanted rows ≡ without_keys keys rows
without_alike wanted keys same [] = refl
without_alike wanted keys same (row ∷ rows) =
    ap (λ b. cond (not b) (row ∷ without_keys wanted rows) (without_keys wanted rows)) (same (order_key row))
    ∙ ap (λ kept. cond (not (has_key keys (order_key row))) (row ∷ kept) kept) (without_alike wanted keys same rows)

or_false : (a : Bool) → (a || false) ≡ a
or_false true = refl
or_false false = refl

and_parts : (a b : Bool) → (a && b) ≡ true → (a ≡ true) × (b ≡ true)
and_parts true b e = (refl, e)
and_parts false b e = cc

same_pair : (a b : ℤ × ℤ) → is_same_line a b ≡ true → a ≡ b
same_pair a b e =
    let both = and_parts (int_eq a.0 b.0) (int_eq a.1 b.1) e in
    let first : a.0 ≡ b.0 = (Decides-int_eq a.0 b.0).0 both.0 in
    let second : a.1 ≡ b.1 = (Decides-int_eq a.1 b.1).0 both.1 in
    λ i. (first i, second i)

one_more_line : (lines : List (ℤ × ℤ)) (line other : ℤ × ℤ) → has_line (lines ++ line ∷ []) other ≡ (has_line lines other || is_same_line other line)
one_more_line lines line other =
    list_any-append (is_same_line other) lines (line ∷ []) ∙ ap (λ b. has_line lines other || b) (or_false (is_same_line other line))

there_already : (keys : List (ℤ × ℤ)) (line other : ℤ × ℤ) (s : Bool) → is_same_line other line ≡ s → has_line keys line ≡ true
    → has_line keys other ≡ (has_line keys other || s)
there_already keys line other true e there =
    let here : has_line keys other ≡ true = subst (λ l. has_line keys l ≡ true) (sym (same_pair other line e)) there in
    here ∙ sym (or_right (has_line keys other) true refl)
there_already keys line other false e there = sym (or_false (has_line keys other))

not_false : (b : Bool) → false ≡ not b → b ≡ true
not_false true e = refl
not_false false e = cc

-- a set after a key is put there, if it was not there before
put_line : (keys : List (ℤ × ℤ)) (line : ℤ × ℤ) (added : Bool) → added ≡ not (has_line keys line) → (other : ℤ × ℤ)
    → has_line (cond added (keys ++ line ∷ []) keys) other ≡ (has_line keys other || is_same_line other line)
put_line keys line true e other = one_more_line keys line other
put_line keys line false e other = there_already keys line other (is_same_line other line) refl (not_false (has_line keys line) e)

pub line_noted : (wanted : List ℤ) (lines keys new : List (ℤ × ℤ)) (line : ℤ × ℤ) (added : Bool) → added ≡ not (has_line keys line)
    → new ≡ cond added (keys ++ line ∷ []) keys → TellsLines wanted lines keys → TellsLines wanted (lines ++ line ∷ []) new
line_noted wanted lines keys new line added e is tells other among =
    ap (λ ks. has_line ks other) is ∙ put_line keys line added e other
    ∙ ap (λ b. b || is_same_line other line) (tells other among) ∙ sym (one_more_line lines line other)

apart : (wanted : List ℤ) (line other : ℤ × ℤ) (s : Bool) → is_same_line other line ≡ s → has_key wanted line.0 ≡ false
    → has_key wanted other.0 ≡ true → s ≡ false
apart wanted line other true e out among =
    let there : has_key wanted line.0 ≡ true = subst (λ l. has_key wanted l.0 ≡ true) (same_pair other line e) among in
    cc
apart wanted line other false e out among = refl

pub line_passed : (wanted : List ℤ) (lines keys : List (ℤ × ℤ)) (line : ℤ × ℤ) → has_key wanted line.0 ≡ false
    → TellsLines wanted lines keys → TellsLines wanted (lines ++ line ∷ []) keys
line_passed wanted lines keys line out tells other among =
    tells other among ∙ sym (or_false (has_line lines other))
    ∙ ap (λ b. has_line lines other || b) (sym (apart wanted line other (is_same_line other line) refl out among))
    ∙ sym (one_more_line lines line other)
