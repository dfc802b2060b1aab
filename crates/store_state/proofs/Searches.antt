-- Orders of a key among rows whose keys ascend.
use Rattle.std.proofs.Common.{◌≡◌, ℕ, ℤ, zero, suc, ◌+◌, ◌-◌, ◌<◌, ◌≤◌, Bool, true, false, cond, not, ◌&&◌, ◌||◌, List, [], ◌∷◌, ◌++◌, length, take, get_or, inl, inr, refl, sym, ap, ◌∙◌, subst, arith, add-zero, pos}
use Rattle.std.specs.Prelude.{◌<ℤ◌, ◌≤ℤ◌, int_le}
use Rattle.std.specs.List.{list_any}
use Rattle.std.specs.Ordering.{int_eq}
use Rattle.std.proofs.lemmas.Bool.{cases_lt, false≢true}
use Rattle.std.proofs.lemmas.Bool.Decides.{Decides-int_eq}
use Rattle.std.proofs.lemmas.Int.{ints}
use Rattle.std.proofs.lemmas.List.{get_or-take, length-take-le, take_all, take_more}
use Rattle.std.proofs.lemmas.List.Folds.{list_any-append}
use Rattle.base_value.specs.declared.value.Value.{Value}
use Rattle.store_state.specs.Found.{AddsKeys, AddsLines, TellsKeys, TellsLines}
use Rattle.store_state.specs.Keys.{has_key, has_line, is_same_line, line_key, line_keys, number_at, order_key, order_keys}
use Rattle.store_state.specs.Parts.{Ascend, AreBetween, has_place, is_between, left_rows}
use Rattle.store_state.proofs.LeftRows.{left_gone, left_more, nothing_left}

or_false : (a : Bool) → (a || false) ≡ a
or_false true = refl
or_false false = refl

or_true : (a : Bool) → (a || true) ≡ true
or_true true = refl
or_true false = refl

-- keys that ascend, one more
at_most : (least greatest x : ℤ) → is_between least greatest x ≡ true → x ≤ℤ greatest
at_most least greatest x within = grind (arith, ints)

not_above : (a b : ℤ) → int_le a b ≡ true → a ≤ℤ b
not_above a b e = grind (arith, ints)

ascend_at_end : (greatest key : ℤ) (rows : List (List Value)) (i a b : ℕ) → key ≡ order_key (get_or rows i []) → greatest ≤ℤ key
    → ((p : ℕ) → p < i → order_key (get_or rows p []) ≤ℤ greatest) → a ≤ b → b ≡ i
    → order_key (get_or rows a []) ≤ℤ order_key (get_or rows b [])
ascend_at_end greatest key rows i a b is above most low at =
    subst (λ n. order_key (get_or rows a []) ≤ℤ order_key (get_or rows n [])) (sym at)
    (subst (λ k. order_key (get_or rows a []) ≤ℤ k) is
    (elim (cases_lt a i) [
      | inl early ↦ let m = most a early in omega (arith, ints, m, above)
      | inr late ↦
          let e : a ≡ i = omega (arith, late, low, at) in
          subst (λ n. order_key (get_or rows n []) ≤ℤ key) (sym e) (subst (λ k. k ≤ℤ key) is (omega (arith, ints)))
    ]))

pub ascend_more : (least greatest key : ℤ) (up : Bool) (rows : List (List Value)) (i : ℕ) → i < length rows → key ≡ order_key (get_or rows i [])
    → AreBetween least greatest (take i rows) → (up ≡ true → Ascend i rows) → (up && int_le greatest key) ≡ true → Ascend (i + 1) rows
ascend_more least greatest key false rows i less is between before so = absurd (false≢true so)
ascend_more least greatest key true rows i less is between before so = λ a b low high.
    let long : length (take i rows) ≡ i = length-take-le i rows (omega (arith, less)) in
    let most : (p : ℕ) → p < i → order_key (get_or rows p []) ≤ℤ greatest =
    λ p early. subst (λ row. order_key row ≤ℤ greatest) (get_or-take i rows p [] early)
    (at_most least greatest (order_key (get_or (take i rows) p [])) (between p [] (omega (arith, early, long)))) in
    elim (cases_lt b i) [
      | inl early ↦ before refl a b low early
      | inr late ↦ ascend_at_end greatest key rows i a b is (not_above greatest key so) most low (omega (arith, late, high))
    ]

-- a test of the rows that are left, one row more
one_tested : (test : List Value → Bool) (gone : Bool) (row : List Value) → list_any test (cond gone [] (row ∷ [])) ≡ (not gone && test row)
one_tested test true row = refl
one_tested test false row = or_false (test row)

pub any_step : (test : List Value → Bool) (deleted : List ℕ) (rows : List (List Value)) (i : ℕ) → i < length rows
    → list_any test (left_rows deleted (take (i + 1) rows)) ≡ (list_any test (left_rows deleted (take i rows)) || (not (has_place deleted i) && test (get_or rows i [])))
any_step test deleted rows i less =
    ap (list_any test) (left_more deleted rows i less)
    ∙ list_any-append test (left_rows deleted (take i rows)) (cond (has_place deleted i) [] (get_or rows i [] ∷ []))
    ∙ ap (λ b. list_any test (left_rows deleted (take i rows)) || b) (one_tested test (has_place deleted i) (get_or rows i []))

missed : (a g : Bool) → (a || (not g && false)) ≡ a
missed true true = refl
missed true false = refl
missed false true = refl
missed false false = refl

any_miss : (test : List Value → Bool) (deleted : List ℕ) (rows : List (List Value)) (i : ℕ) → i < length rows → test (get_or rows i []) ≡ false
    → list_any test (left_rows deleted (take (i + 1) rows)) ≡ list_any test (left_rows deleted (take i rows))
any_miss test deleted rows i less miss =
    any_step test deleted rows i less
    ∙ ap (λ b. list_any test (left_rows deleted (take i rows)) || (not (has_place deleted i) && b)) miss
    ∙ missed (list_any test (left_rows deleted (take i rows))) (has_place deleted i)

any_skip : (test : List Value → Bool) (deleted : List ℕ) (rows : List (List Value)) (i n : ℕ) → i + n ≤ length rows
    → ((p : ℕ) → i ≤ p → p < i + n → test (get_or rows p []) ≡ false)
    → list_any test (left_rows deleted (take (i + n) rows)) ≡ list_any test (left_rows deleted (take i rows))
any_skip test deleted rows i zero most none = ap (λ k. list_any test (left_rows deleted (take k rows))) (add-zero i)
any_skip test deleted rows i (suc n) most none =
    let e : i + suc n ≡ (i + n) + 1 = omega arith in
    ap (λ k. list_any test (left_rows deleted (take k rows))) e
    ∙ any_miss test deleted rows (i + n) (omega (arith, most)) (none (i + n) (omega arith) (omega arith))
    ∙ any_skip test deleted rows i n (omega (arith, most)) (λ p from to. none p from (omega (arith, to)))

any_until : (test : List Value → Bool) (deleted : List ℕ) (rows : List (List Value)) (i j : ℕ) → i ≤ j → j ≤ length rows
    → ((p : ℕ) → i ≤ p → p < j → test (get_or rows p []) ≡ false)
    → list_any test (left_rows deleted (take j rows)) ≡ list_any test (left_rows deleted (take i rows))
any_until test deleted rows i j most within none =
    let e : i + (j - i) ≡ j = omega (arith, most) in
    subst (λ k. list_any test (left_rows deleted (take k rows)) ≡ list_any test (left_rows deleted (take i rows))) e
    (any_skip test deleted rows i (j - i) (omega (arith, e, within)) (λ p from to. none p from (omega (arith, to, e))))

any_all : (test : List Value → Bool) (deleted : List ℕ) (rows : List (List Value))
    → list_any test (left_rows deleted (take (length rows) rows)) ≡ list_any test (left_rows deleted rows)
any_all test deleted rows = ap (λ l. list_any test (left_rows deleted l)) (take_all (length rows) rows (omega arith))

any_none : (test : List Value → Bool) (deleted : List ℕ) (rows : List (List Value)) → list_any test (left_rows deleted (take 0 rows)) ≡ false
any_none test deleted rows = ap (list_any test) (nothing_left deleted)

-- what the first rows settle stays
any_kept : (test : List Value → Bool) (deleted : List ℕ) (rows : List (List Value)) (i n : ℕ) → i + n ≤ length rows
    → list_any test (left_rows deleted (take i rows)) ≡ true → list_any test (left_rows deleted (take (i + n) rows)) ≡ true
any_kept test deleted rows i zero most there = ap (λ k. list_any test (left_rows deleted (take k rows))) (add-zero i) ∙ there
any_kept test deleted rows i (suc n) most there =
    let e : i + suc n ≡ (i + n) + 1 = omega arith in
    ap (λ k. list_any test (left_rows deleted (take k rows))) e
    ∙ any_step test deleted rows (i + n) (omega (arith, most))
    ∙ ap (λ b. b || (not (has_place deleted (i + n)) && test (get_or rows (i + n) []))) (any_kept test deleted rows i n (omega (arith, most)) there)

pub any_here : (test : List Value → Bool) (deleted : List ℕ) (rows : List (List Value)) (i : ℕ) → i < length rows → has_place deleted i ≡ false
    → test (get_or rows i []) ≡ true → list_any test (left_rows deleted rows) ≡ true
any_here test deleted rows i less kept hit =
    let here : list_any test (left_rows deleted (take (i + 1) rows)) ≡ true =
    any_step test deleted rows i less
    ∙ ap (λ g. list_any test (left_rows deleted (take i rows)) || (not g && test (get_or rows i []))) kept
    ∙ ap (λ b. list_any test (left_rows deleted (take i rows)) || b) hit
    ∙ or_true (list_any test (left_rows deleted (take i rows))) in
    let e : (i + 1) + (length rows - (i + 1)) ≡ length rows = omega (arith, less) in
    sym (any_all test deleted rows)
    ∙ subst (λ k. list_any test (left_rows deleted (take k rows)) ≡ true) e
    (any_kept test deleted rows (i + 1) (length rows - (i + 1)) (omega (arith, e)) here)

-- a test that only rows of orders of one key pass
abbrev pub IsOfKey : ℤ → (List Value → Bool) → Type 0
IsOfKey key test = (row : List Value) → (order_key row ≡ key → ⊥) → test row ≡ false

-- no row below the place from which on no key is less passes it
pub none_below : (test : List Value → Bool) (deleted : List ℕ) (rows : List (List Value)) (key : ℤ) (first : ℕ) → IsOfKey key test
    → first ≤ length rows → ((i : ℕ) → i < first → order_key (get_or rows i []) <ℤ key)
    → list_any test (left_rows deleted (take first rows)) ≡ false
none_below test deleted rows key first only within less =
    any_until test deleted rows 0 first (omega arith) within
    (λ p from to. only (get_or rows p []) (λ e. let l = less p to in absurd (omega (arith, ints, l, e))))
    ∙ any_none test deleted rows

-- nor does one from a greater key on
pub none_past : (test : List Value → Bool) (deleted : List ℕ) (rows : List (List Value)) (key : ℤ) (i : ℕ) → IsOfKey key test
    → i < length rows → Ascend (length rows) rows → key <ℤ order_key (get_or rows i [])
    → list_any test (left_rows deleted rows) ≡ list_any test (left_rows deleted (take i rows))
none_past test deleted rows key i only less up above =
    sym (any_all test deleted rows)
    ∙ any_until test deleted rows i (length rows) (omega (arith, less)) (omega arith)
    (λ p from to. only (get_or rows p []) (λ e. let l = up i p from to in absurd (omega (arith, ints, l, above, e))))

-- nor does any where the key is outside the range of theirs
pub none_outside : (test : List Value → Bool) (deleted : List ℕ) (rows : List (List Value)) (least greatest key : ℤ) → IsOfKey key test
    → AreBetween least greatest rows → is_between least greatest key ≡ false → list_any test (left_rows deleted rows) ≡ false
none_outside test deleted rows least greatest key only between out =
    sym (any_all test deleted rows)
    ∙ any_until test deleted rows 0 (length rows) (omega arith) (omega arith)
    (λ p from to. only (get_or rows p []) (λ e. false≢true (sym out ∙ subst (λ k. is_between least greatest k ≡ true) e (between p [] to))))
    ∙ any_none test deleted rows

-- the tests of keys
unequal : (a b : ℤ) (r : Bool) → int_eq a b ≡ r → (a ≡ b → ⊥) → r ≡ false
unequal a b true e apart = absurd (apart ((Decides-int_eq a b).0 e))
unequal a b false e apart = refl

abbrev pub order_test : ℤ → List Value → Bool
order_test key row = int_eq key (order_key row)

pub order_only : (key : ℤ) → IsOfKey key (order_test key)
order_only key = λ row apart. unequal key (order_key row) (int_eq key (order_key row)) refl (λ e. apart (sym e))

pub order_hit : (key : ℤ) (row : List Value) → order_key row ≡ key → order_test key row ≡ true
order_hit key row e = (Decides-int_eq key (order_key row)).1 (sym e)

pub keys_tested : (key : ℤ) (rows : List (List Value)) → has_key (order_keys rows) key ≡ list_any (order_test key) rows
keys_tested key [] = refl
keys_tested key (row ∷ rows) = ap (λ b. int_eq key (order_key row) || b) (keys_tested key rows)

abbrev pub line_test : ℤ × ℤ → List Value → Bool
line_test line row = is_same_line line (line_key row)

pub line_only : (key : ℤ) (line : ℤ × ℤ) → line.0 ≡ key → IsOfKey key (line_test line)
line_only key line same = λ row apart.
    ap (λ b. b && int_eq line.1 (number_at 3 row)) (unequal line.0 (order_key row) (int_eq line.0 (order_key row)) refl (λ e. apart (sym e ∙ same)))

pub lines_tested : (line : ℤ × ℤ) (rows : List (List Value)) → has_line (line_keys rows) line ≡ list_any (line_test line) rows
lines_tested line [] = refl
lines_tested line (row ∷ rows) = ap (λ b. is_same_line line (line_key row) || b) (lines_tested line rows)

-- keys that were found, one more
pub keys_begin : (wanted keys old : List ℤ) → AddsKeys [] keys old old
keys_begin wanted keys old key = sym (or_false (has_key old key))

one_more_key : (a b x : Bool) (h : Bool) → ((h || (a && x)) || (b && x)) ≡ (h || ((a || b) && x))
one_more_key true true true true = refl
one_more_key true true true false = refl
one_more_key true true false true = refl
one_more_key true true false false = refl
one_more_key true false true true = refl
one_more_key true false true false = refl
one_more_key true false false true = refl
one_more_key true false false false = refl
one_more_key false true true true = refl
one_more_key false true true false = refl
one_more_key false true false true = refl
one_more_key false true false false = refl
one_more_key false false true true = refl
one_more_key false false true false = refl
one_more_key false false false true = refl
one_more_key false false false false = refl

wanted_more : (wanted : List ℤ) (k : ℕ) (key : ℤ) → k < length wanted
    → has_key (take (k + 1) wanted) key ≡ (has_key (take k wanted) key || has_key (get_or wanted k (pos 0) ∷ []) key)
wanted_more wanted k key less =
    ap (λ l. has_key l key) (take_more wanted k (pos 0) less) ∙ list_any-append (int_eq key) (take k wanted) (get_or wanted k (pos 0) ∷ [])

-- the key itself is there just where it is among these
of_one : (keys : List ℤ) (key other : ℤ) (r there : Bool) → int_eq other key ≡ r → has_key keys key ≡ there → (r && has_key keys other) ≡ (r && there)
of_one keys key other true there e is = subst (λ k. has_key keys k ≡ there) (sym ((Decides-int_eq other key).0 e)) is
of_one keys key other false there e is = refl

and_true : (a : Bool) → (a && true) ≡ a
and_true true = refl
and_true false = refl

and_false : (a : Bool) → (a && false) ≡ false
and_false true = refl
and_false false = refl

found_one : (keys : List ℤ) (found : List ℤ) (key other : ℤ) (there : Bool) → has_key keys key ≡ there
    → has_key (cond there (found ++ key ∷ []) found) other ≡ (has_key found other || (has_key (key ∷ []) other && has_key keys other))
found_one keys found key other true is =
    list_any-append (int_eq other) found (key ∷ [])
    ∙ ap (λ b. has_key found other || b)
    (sym (ap (λ b. b && has_key keys other) (or_false (int_eq other key)) ∙ of_one keys key other (int_eq other key) true refl is
    ∙ and_true (int_eq other key) ∙ sym (or_false (int_eq other key))))
found_one keys found key other false is =
    sym (ap (λ b. has_key found other || b)
    (ap (λ b. b && has_key keys other) (or_false (int_eq other key)) ∙ of_one keys key other (int_eq other key) false refl is ∙ and_false (int_eq other key))
    ∙ or_false (has_key found other))

pub keys_more : (wanted keys old found new : List ℤ) (k : ℕ) (there : Bool) → k < length wanted → has_key keys (get_or wanted k (pos 0)) ≡ there
    → new ≡ cond there (found ++ get_or wanted k (pos 0) ∷ []) found → AddsKeys (take k wanted) keys old found → AddsKeys (take (k + 1) wanted) keys old new
keys_more wanted keys old found new k there less is e so_far key =
    let one = get_or wanted k (pos 0) in
    ap (λ l. has_key l key) e
    ∙ found_one keys found one key there is
    ∙ ap (λ b. b || (has_key (one ∷ []) key && has_key keys key)) (so_far key)
    ∙ one_more_key (has_key (take k wanted) key) (has_key (one ∷ []) key) (has_key keys key) (has_key old key)
    ∙ sym (ap (λ b. has_key old key || (b && has_key keys key)) (wanted_more wanted k key less))

pub lines_begin : (lines old : List (ℤ × ℤ)) → AddsLines [] lines old old
lines_begin lines old line = sym (or_false (has_line old line))

pub lines_more : (wanted : List ℤ) (lines old found new : List (ℤ × ℤ)) (k : ℕ) → k < length wanted → AddsLines (get_or wanted k (pos 0) ∷ []) lines found new
    → AddsLines (take k wanted) lines old found → AddsLines (take (k + 1) wanted) lines old new
lines_more wanted lines old found new k less one_more so_far line =
    let one = get_or wanted k (pos 0) in
    one_more line
    ∙ ap (λ b. b || (has_key (one ∷ []) line.0 && has_line lines line)) (so_far line)
    ∙ one_more_key (has_key (take k wanted) line.0) (has_key (one ∷ []) line.0) (has_line lines line) (has_line old line)
    ∙ sym (ap (λ b. has_line old line || (b && has_line lines line)) (wanted_more wanted k line.0 less))

-- lineitems of one order, up to a place among its rows
abbrev pub AddsUntil : ℤ → List ℕ → List (List Value) → List (ℤ × ℤ) → ℕ → List (ℤ × ℤ) → Type 0
AddsUntil key deleted rows old i new = (line : ℤ × ℤ)
    → has_line new line ≡ (has_line old line || (int_eq line.0 key && list_any (line_test line) (left_rows deleted (take i rows))))

where_key : (key : ℤ) (line : ℤ × ℤ) (r a b : Bool) → int_eq line.0 key ≡ r → (line.0 ≡ key → a ≡ b) → (r && a) ≡ (r && b)
where_key key line true a b e same = same ((Decides-int_eq line.0 key).0 e)
where_key key line false a b e same = refl

pub until_first : (key : ℤ) (deleted : List ℕ) (rows : List (List Value)) (old : List (ℤ × ℤ)) (first : ℕ) → first ≤ length rows
    → ((i : ℕ) → i < first → order_key (get_or rows i []) <ℤ key) → AddsUntil key deleted rows old first old
until_first key deleted rows old first within less line =
    sym (ap (λ b. has_line old line || b)
    (where_key key line (int_eq line.0 key) (list_any (line_test line) (left_rows deleted (take first rows))) false refl
    (λ e. none_below (line_test line) deleted rows key first (line_only key line e) within less)
    ∙ and_false (int_eq line.0 key))
    ∙ or_false (has_line old line))

one_more_row : (h e b n t : Bool) → ((h || (e && b)) || (n && (e && t))) ≡ (h || (e && (b || (n && (e && t)))))
one_more_row true e b n t = refl
one_more_row false true true n t = refl
one_more_row false true false n t = refl
one_more_row false false b true t = refl
one_more_row false false b false t = refl

put_one : (deleted_here : Bool) (found : List (ℤ × ℤ)) (line other : ℤ × ℤ)
    → has_line (cond deleted_here found (found ++ line ∷ [])) other ≡ (has_line found other || (not deleted_here && is_same_line other line))
put_one true found line other = sym (or_false (has_line found other))
put_one false found line other = list_any-append (is_same_line other) found (line ∷ []) ∙ ap (λ b. has_line found other || b) (or_false (is_same_line other line))

pub until_more : (key : ℤ) (deleted : List ℕ) (rows : List (List Value)) (old found new : List (ℤ × ℤ)) (i : ℕ) → i < length rows
    → order_key (get_or rows i []) ≡ key → new ≡ cond (has_place deleted i) found (found ++ line_key (get_or rows i []) ∷ [])
    → AddsUntil key deleted rows old i found → AddsUntil key deleted rows old (i + 1) new
until_more key deleted rows old found new i less at e so_far line =
    let row = get_or rows i [] in
    let b = list_any (line_test line) (left_rows deleted (take i rows)) in
    let t = int_eq line.1 (number_at 3 row) in
    let n = not (has_place deleted i) in
    let as_key : is_same_line line (line_key row) ≡ (int_eq line.0 key && t) = ap (λ k. int_eq line.0 k && t) at in
    ap (λ l. has_line l line) e
    ∙ put_one (has_place deleted i) found (line_key row) line
    ∙ ap (λ h. h || (n && is_same_line line (line_key row))) (so_far line)
    ∙ ap (λ s. (has_line old line || (int_eq line.0 key && b)) || (n && s)) as_key
    ∙ one_more_row (has_line old line) (int_eq line.0 key) b n t
    ∙ ap (λ s. has_line old line || (int_eq line.0 key && (b || (n && s)))) (sym as_key)
    ∙ ap (λ s. has_line old line || (int_eq line.0 key && s)) (sym (any_step (line_test line) deleted rows i less))

-- the lineitems of an order, once no further row is of it
until_end : (key : ℤ) (deleted : List ℕ) (rows : List (List Value)) (old new : List (ℤ × ℤ)) (i : ℕ)
    → ((line : ℤ × ℤ) → line.0 ≡ key → list_any (line_test line) (left_rows deleted (take i rows)) ≡ list_any (line_test line) (left_rows deleted rows))
    → AddsUntil key deleted rows old i new → AddsLines (key ∷ []) (line_keys (left_rows deleted rows)) old new
until_end key deleted rows old new i rest so_far line =
    so_far line
    ∙ ap (λ b. has_line old line || b)
    (where_key key line (int_eq line.0 key) (list_any (line_test line) (left_rows deleted (take i rows))) (list_any (line_test line) (left_rows deleted rows)) refl (rest line)
    ∙ ap (λ b. b && list_any (line_test line) (left_rows deleted rows)) (sym (or_false (int_eq line.0 key)))
    ∙ ap (λ b. (int_eq line.0 key || false) && b) (sym (lines_tested line (left_rows deleted rows))))

pub lines_past : (key : ℤ) (deleted : List ℕ) (rows : List (List Value)) (old new : List (ℤ × ℤ)) (i : ℕ) → i < length rows → Ascend (length rows) rows
    → key <ℤ order_key (get_or rows i []) → AddsUntil key deleted rows old i new → AddsLines (key ∷ []) (line_keys (left_rows deleted rows)) old new
lines_past key deleted rows old new i less up above so_far =
    until_end key deleted rows old new i (λ line e. sym (none_past (line_test line) deleted rows key i (line_only key line e) less up above)) so_far

pub lines_through : (key : ℤ) (deleted : List ℕ) (rows : List (List Value)) (old new : List (ℤ × ℤ)) (i : ℕ) → i ≡ length rows
    → AddsUntil key deleted rows old i new → AddsLines (key ∷ []) (line_keys (left_rows deleted rows)) old new
lines_through key deleted rows old new i end so_far =
    until_end key deleted rows old new i
    (λ line e. ap (λ k. list_any (line_test line) (left_rows deleted (take k rows))) end ∙ any_all (line_test line) deleted rows) so_far

pub lines_outside : (key : ℤ) (deleted : List ℕ) (rows : List (List Value)) (old : List (ℤ × ℤ)) (least greatest : ℤ) → AreBetween least greatest rows
    → is_between least greatest key ≡ false → AddsLines (key ∷ []) (line_keys (left_rows deleted rows)) old old
lines_outside key deleted rows old least greatest between out line =
    sym (ap (λ b. has_line old line || ((int_eq line.0 key || false) && b)) (lines_tested line (left_rows deleted rows))
    ∙ ap (λ r. has_line old line || (r && list_any (line_test line) (left_rows deleted rows))) (or_false (int_eq line.0 key))
    ∙ ap (λ b. has_line old line || b)
    (where_key key line (int_eq line.0 key) (list_any (line_test line) (left_rows deleted rows)) false refl
    (λ e. none_outside (line_test line) deleted rows least greatest key (line_only key line e) between out)
    ∙ and_false (int_eq line.0 key))
    ∙ or_false (has_line old line))

-- what was added to nothing tells about the wanted ones
pub keys_told : (wanted keys old new : List ℤ) → old ≡ [] → AddsKeys wanted keys old new → TellsKeys wanted keys new
keys_told wanted keys old new none adds key among =
    adds key ∙ ap (λ l. has_key l key || (has_key wanted key && has_key keys key)) none ∙ ap (λ b. b && has_key keys key) among

pub lines_told : (wanted : List ℤ) (lines old new : List (ℤ × ℤ)) → old ≡ [] → AddsLines wanted lines old new → TellsLines wanted lines new
lines_told wanted lines old new none adds line among =
    adds line ∙ ap (λ l. has_line l line || (has_key wanted line.0 && has_line lines line)) none ∙ ap (λ b. b && has_line lines line) among

-- keys that tell about others serve as these
pub keys_passed_on : (wanted keys near before found : List ℤ) → TellsKeys wanted keys near → TellsKeys wanted (before ++ near) found → TellsKeys wanted (before ++ keys) found
keys_passed_on wanted keys near before found tells found_tells key among =
    found_tells key among ∙ list_any-append (int_eq key) before near ∙ ap (λ b. has_key before key || b) (tells key among) ∙ sym (list_any-append (int_eq key) before keys)

pub lines_passed_on : (wanted : List ℤ) (lines near before found : List (ℤ × ℤ)) → TellsLines wanted lines near → TellsLines wanted (before ++ near) found
    → TellsLines wanted (before ++ lines) found
lines_passed_on wanted lines near before found tells found_tells line among =
    found_tells line among ∙ list_any-append (is_same_line line) before near ∙ ap (λ b. has_line before line || b) (tells line among)
    ∙ sym (list_any-append (is_same_line line) before lines)

-- a half of the rows more on each side
pub lower_half : (rows : List (List Value)) (key : ℤ) (middle : ℕ) → Ascend (length rows) rows → middle < length rows
    → order_key (get_or rows middle []) <ℤ key → (i : ℕ) → i < middle + 1 → order_key (get_or rows i []) <ℤ key
lower_half rows key middle up within below i less =
    let l : order_key (get_or rows i []) ≤ℤ order_key (get_or rows middle []) = up i middle (omega (arith, less)) within in omega (arith, ints, l, below)

pub upper_half : (rows : List (List Value)) (key : ℤ) (middle : ℕ) → Ascend (length rows) rows → key ≤ℤ order_key (get_or rows middle [])
    → (i : ℕ) → middle ≤ i → i < length rows → key ≤ℤ order_key (get_or rows i [])
upper_half rows key middle up above i from within =
    let l : order_key (get_or rows middle []) ≤ℤ order_key (get_or rows i []) = up middle i from within in omega (arith, ints, l, above)

-- whether an order of a key is left
pub order_outside : (key : ℤ) (deleted : List ℕ) (rows : List (List Value)) (least greatest : ℤ) → AreBetween least greatest rows
    → is_between least greatest key ≡ false → false ≡ has_key (order_keys (left_rows deleted rows)) key
order_outside key deleted rows least greatest between out =
    sym (keys_tested key (left_rows deleted rows) ∙ none_outside (order_test key) deleted rows least greatest key (order_only key) between out)

pub order_below : (key : ℤ) (deleted : List ℕ) (rows : List (List Value)) (first : ℕ) → first ≤ length rows
    → ((i : ℕ) → i < first → order_key (get_or rows i []) <ℤ key) → list_any (order_test key) (left_rows deleted (take first rows)) ≡ false
order_below key deleted rows first within less = none_below (order_test key) deleted rows key first (order_only key) within less

pub order_gone : (key : ℤ) (deleted : List ℕ) (rows : List (List Value)) (i : ℕ) → i < length rows → has_place deleted i ≡ true
    → list_any (order_test key) (left_rows deleted (take i rows)) ≡ false → list_any (order_test key) (left_rows deleted (take (i + 1) rows)) ≡ false
order_gone key deleted rows i less gone none = ap (list_any (order_test key)) (left_gone deleted rows i less gone) ∙ none

pub order_past : (key : ℤ) (deleted : List ℕ) (rows : List (List Value)) (i : ℕ) → i < length rows → Ascend (length rows) rows
    → key <ℤ order_key (get_or rows i []) → list_any (order_test key) (left_rows deleted (take i rows)) ≡ false
    → false ≡ has_key (order_keys (left_rows deleted rows)) key
order_past key deleted rows i less up above none =
    sym (keys_tested key (left_rows deleted rows) ∙ none_past (order_test key) deleted rows key i (order_only key) less up above ∙ none)

pub order_here : (key : ℤ) (deleted : List ℕ) (rows : List (List Value)) (i : ℕ) → i < length rows → has_place deleted i ≡ false
    → order_key (get_or rows i []) ≡ key → true ≡ has_key (order_keys (left_rows deleted rows)) key
order_here key deleted rows i less kept at =
    sym (keys_tested key (left_rows deleted rows) ∙ any_here (order_test key) deleted rows i less kept (order_hit key (get_or rows i []) at))

pub order_nowhere : (key : ℤ) (deleted : List ℕ) (rows : List (List Value)) (i : ℕ) → i ≡ length rows
    → list_any (order_test key) (left_rows deleted (take i rows)) ≡ false → false ≡ has_key (order_keys (left_rows deleted rows)) key
order_nowhere key deleted rows i end none =
    sym (keys_tested key (left_rows deleted rows) ∙ sym (any_all (order_test key) deleted rows)
    ∙ ap (λ k. list_any (order_test key) (left_rows deleted (take k rows))) (sym end) ∙ none)
