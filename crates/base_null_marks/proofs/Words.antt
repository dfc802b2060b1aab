-- Lemmas on the words that marks are kept in.
use Rattle.std.proofs.Common.{◌≡◌, ℕ, ◌-◌, ◌*◌, ◌/◌, ◌%◌, ◌^◌, ◌<◌, ◌≤◌, suc, zero, Bool, true, false, cond, List, [], ◌∷◌, ◌++◌, refl, sym, ap, ◌∙◌, arith, length, get_or, set, take, replicate, ⊎_elim}
use Rattle.std.specs.Prelude.{nat_eq, bit_and, bit_or, max, ◌||◌, ◌&&◌}
use Rattle.std.specs.Int.{bit_at, w64}
use Rattle.std.proofs.lemmas.Bool.{cases_lt, cases_eq, eq-eqb, ne_eqb, lt-ltb, le-ltb, lt-leb}
use Rattle.std.proofs.lemmas.List.{get_or_past, get_or-set_same, get_or-set_other, get_or_append_left, get_or_at, get_or-replicate, get_or-take, length_push}
use Rattle.std.proofs.lemmas.List.FromFn.{get_or-map-range_with_len, length-map-range_with_len}
use Rattle.std.proofs.lemmas.Nat.Bits.{bit_at-zero, bit_at_set_same, bit_at_set_other, bit_at_clear_same, bit_at_clear_other, shr_and_one, bit_at_or, bit_at-lt, bit_at_ones}
use Rattle.std.specs.List.{All}
use Rattle.base_null_marks.specs.Marks.{has, is_marked, marks_of, AreEither, AreFirst, AreMarksAt}

-- no bit past the words
past : (words : List ℕ) (i : ℕ) → length words ≤ i / 64 → is_marked words i ≡ false
unfolding is_marked
past words i h = rw (get_or_past words (i / 64) 0 h, bit_at-zero (i % 64)) refl

pub has-words : (words : List ℕ) (i : ℕ) → has (marks_of words) i ≡ is_marked words i
unfolding marks_of
has-words words i = ⊎_elim
    (λ (h : i < length words * 64). get_or-map-range_with_len (is_marked words) 0 (length words * 64) i i false h (omega arith))
    (λ (h : length words * 64 ≤ i).
    get_or_past (marks_of words) i false (omega (arith, h, length-map-range_with_len (is_marked words) 0 (length words * 64)))
    ∙ sym (past words i (omega (arith, h))))
    (cases_lt i (length words * 64))

pub no_words : marks_of [] ≡ []
unfolding marks_of
no_words = refl

pub empty_words : (words : List ℕ) → length words ≡ 0 → marks_of words ≡ []
empty_words [] e = no_words
empty_words (w ∷ words) e = absurd (omega (arith, e))

pub none_past : (words : List ℕ) (i : ℕ) → length words ≤ i / 64 → has (marks_of words) i ≡ false
none_past words i h = has-words words i ∙ past words i h

-- a word of zeros more
pub one_more : (words : List ℕ) (i : ℕ) → is_marked (words ++ 0 ∷ []) i ≡ is_marked words i
unfolding is_marked
one_more words i = ⊎_elim
    (λ (h : i / 64 < length words). rw (get_or_append_left words (0 ∷ []) 0 (i / 64) h) refl)
    (λ (h : length words ≤ i / 64). ⊎_elim
    (λ (e : i / 64 ≡ length words). rw (e, get_or_at words 0 [] 0 (length words) refl, get_or_past words (length words) 0 (omega arith)) refl)
    (λ (n : i / 64 ≡ length words → ⊥).
    let l : length words < i / 64 = omega (arith, h, n) in
    rw (get_or_past (words ++ 0 ∷ []) (i / 64) 0 (omega (arith, l, length_push words 0)), get_or_past words (i / 64) 0 (omega (arith, l))) refl)
    (cases_eq (i / 64) (length words)))
    (cases_lt (i / 64) (length words))

-- one bit set or cleared
module _ (words : List ℕ) (i : ℕ) (h : i / 64 < length words) (w : ℕ) (b : ℕ) (mark : Bool)
    (same : nat_eq (bit_at w (i % 64)) 1 ≡ mark)
    (other : (k : ℕ) → k < 64 → (k ≡ i % 64 → ⊥) → bit_at w k ≡ bit_at (get_or words (i / 64) 0) k) where
  pub bit_written : (j : ℕ) → is_marked (set words (i / 64) w) j ≡ cond (nat_eq j i) mark (is_marked words j)
  unfolding is_marked
  bit_written j = ⊎_elim
      (λ (e : j ≡ i). rw (e, get_or-set_same words (i / 64) w 0 h, same, eq-eqb i i refl) refl)
      (λ (n : j ≡ i → ⊥). ⊎_elim
      (λ (e : j / 64 ≡ i / 64).
      let k : j % 64 ≡ i % 64 → ⊥ = λ f. n (omega (arith, e, f)) in
      rw (ne_eqb j i n, e, get_or-set_same words (i / 64) w 0 h, other (j % 64) (omega arith) k) refl)
      (λ (m : j / 64 ≡ i / 64 → ⊥). rw (ne_eqb j i n, get_or-set_other words (i / 64) (j / 64) w 0 m) refl)
      (cases_eq (j / 64) (i / 64)))
      (cases_eq j i)

pub bit_set : (words : List ℕ) (i : ℕ) → i / 64 < length words → (j : ℕ)
    → is_marked (set words (i / 64) (bit_or (get_or words (i / 64) 0) (1 * 2 ^ (i % 64) % 2 ^ 64))) j ≡ cond (nat_eq j i) true (is_marked words j)
bit_set words i h j =
    let w = get_or words (i / 64) 0 in
    bit_written words i h (bit_or w (1 * 2 ^ (i % 64) % 2 ^ 64)) 0 true
    (ap (λ n. nat_eq n 1) (bit_at_set_same w64 w (i % 64) (omega arith)))
    (λ k l n. bit_at_set_other w64 w (i % 64) (omega arith) k n) j

pub bit_cleared : (words : List ℕ) (i : ℕ) → i / 64 < length words → (j : ℕ)
    → is_marked (set words (i / 64) (bit_and (get_or words (i / 64) 0) (2 ^ 64 - 1 - 1 * 2 ^ (i % 64) % 2 ^ 64))) j ≡ cond (nat_eq j i) false (is_marked words j)
bit_cleared words i h j =
    let w = get_or words (i / 64) 0 in
    bit_written words i h (bit_and w (2 ^ 64 - 1 - 1 * 2 ^ (i % 64) % 2 ^ 64)) 0 false
    (ap (λ n. nat_eq n 1) (bit_at_clear_same w64 w (i % 64) (omega arith)))
    (λ k l n. bit_at_clear_other w64 w (i % 64) (omega arith) k l n) j

max_is : (a b : ℕ) → a < 2 → b < 2 → nat_eq (max a b) 1 ≡ (nat_eq a 1 || nat_eq b 1)
max_is zero zero h l = refl
max_is zero (suc zero) h l = refl
max_is (suc zero) zero h l = refl
max_is (suc zero) (suc zero) h l = refl
max_is (suc (suc a)) b h l = absurd (omega (arith, h))
max_is zero (suc (suc b)) h l = absurd (omega (arith, l))
max_is (suc zero) (suc (suc b)) h l = absurd (omega (arith, l))

-- words that have the ones of both
pub either_word : (us vs ws : List ℕ) → ((k : ℕ) → get_or ws k 0 ≡ bit_or (get_or us k 0) (get_or vs k 0)) → (i : ℕ)
    → is_marked ws i ≡ (is_marked us i || is_marked vs i)
unfolding is_marked
either_word us vs ws h i =
    let a = get_or us (i / 64) 0 in
    let b = get_or vs (i / 64) 0 in
    rw (h (i / 64), bit_at_or a b (i % 64)) (max_is (bit_at a (i % 64)) (bit_at b (i % 64)) (bit_at-lt a (i % 64)) (bit_at-lt b (i % 64)))

pub either_full : (us vs ws : List ℕ) (n : ℕ) → length ws ≡ n → length us ≤ n → length vs ≤ n
    → ((k : ℕ) → k < n → get_or ws k 0 ≡ bit_or (get_or us k 0) (get_or vs k 0)) → (k : ℕ) → get_or ws k 0 ≡ bit_or (get_or us k 0) (get_or vs k 0)
either_full us vs ws n e l m h k = ⊎_elim (λ (f : k < n). h k f)
    (λ (f : n ≤ k). rw (get_or_past ws k 0 (omega (arith, e, f)), get_or_past us k 0 (omega (arith, l, f)), get_or_past vs k 0 (omega (arith, m, f))) refl)
    (cases_lt k n)

pub either_marks : (us vs ws : List ℕ) → ((i : ℕ) → is_marked ws i ≡ (is_marked us i || is_marked vs i)) → AreEither (marks_of us) (marks_of vs) (marks_of ws)
either_marks us vs ws h i = rw (has-words ws i, has-words us i, has-words vs i) (h i)

pub all_ones : (n i : ℕ) → i < n * 64 → is_marked (replicate n (2 ^ 64 - 1)) i ≡ true
unfolding is_marked
all_ones n i h =
    let e : get_or (replicate n (2 ^ 64 - 1)) (i / 64) 0 ≡ 2 ^ 64 - 1 = get_or-replicate n (i / 64) (2 ^ 64 - 1) 0 (omega (arith, h)) in
    rw e (ap (λ b. nat_eq b 1) (bit_at_ones 64 (i % 64) (omega arith)))

pub are_ones : (words : List ℕ) (n : ℕ) → words ≡ replicate n (2 ^ 64 - 1) → (i : ℕ) → i < n * 64 → is_marked words i ≡ true
are_ones words n e i h = ap (λ ws. is_marked ws i) e ∙ all_ones n i h

pub cut_words : (words new : List ℕ) (n k : ℕ) → new ≡ take k words → n ≤ k * 64 → (i : ℕ) → i < n → is_marked new i ≡ is_marked words i
unfolding is_marked
cut_words words new n k e h i l =
    ap (λ ws. is_marked ws i) e ∙ ap (λ w. nat_eq (bit_at w (i % 64)) 1) (get_or-take k words (i / 64) 0 (omega (arith, h, l)))

pub no_places : (n : ℕ) (ms : List Bool) (places : List ℕ) → All (λ i. i < n) places → AreMarksAt n [] places []
no_places n ms places h k l = rw (lt-leb n (get_or places k 0) (h k 0 l)) refl

pub marks_first : (n : ℕ) (ms ns : List Bool) → ((i : ℕ) → i < n → has ns i ≡ has ms i) → ((i : ℕ) → (i < n → ⊥) → has ns i ≡ false) → AreFirst n ms ns
marks_first n ms ns h l i = ⊎_elim
    (λ (f : i < n). h i f ∙ ap (λ b. b && has ms i) (sym (lt-ltb i n f)))
    (λ (f : n ≤ i). l i (λ g. omega (arith, f, g)) ∙ ap (λ b. b && has ms i) (sym (le-ltb i n f)))
    (cases_lt i n)

pub ruleset full = (are_ones)

pub ruleset cuts = (cut_words)

pub ruleset marks = (has-words, no_words, none_past, empty_words, either_marks, marks_first)

pub ruleset bits = (shr_and_one)
