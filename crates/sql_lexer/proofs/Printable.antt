-- Names and the contents of texts are printable.
use Rattle.std.proofs.Common.{◌≡◌, ℕ, suc, ◌+◌, ◌<◌, ◌≤◌, Bool, true, false, not, cond, eqb, List, [], ◌∷◌, length, drop, Some, None, map, refl, arith}
use Rattle.std.specs.Prelude.{nat_lt, position}
use Rattle.std.specs.List.{position_or_len}
use Rattle.std.specs.Char.{to_ascii_lowercase}
use Rattle.std.proofs.lemmas.Bool.Decides.{nat_tests}
use Rattle.base_text.specs.Printable.{is_printable, AllPrintable}
use Rattle.sql_lexer.specs.Bytes.{is_letter, is_word}
use Rattle.sql_lexer.specs.Forms.{all_are, unquoted}
use Rattle.sql_lexer.proofs.Truths.{and_left, and_right}

past_none : (a n : ℕ) → n ≤ a → cond (nat_lt a n) (Some a) None ≡ None
past_none a n le = by (nat_lt a n) refl
  where
    by : (t : Bool) → nat_lt a n ≡ t → cond t (Some a) None ≡ None
    by true e = absurd (let l : a < n = grind (arith, nat_tests) in omega arith)
    by false e = refl

none_past : (a n : ℕ) → cond (nat_lt a n) (Some a) None ≡ None → n ≤ a
none_past a n h = by (nat_lt a n) refl h
  where
    by : (t : Bool) → nat_lt a n ≡ t → cond t (Some a) None ≡ None → n ≤ a
    by true e g = absurd (let never : Some a ≡ None = g in cc)
    by false e g = grind (arith, nat_tests)

-- no byte fails the test
module _ (p : ℕ → Bool) where
  none_cons : (b : ℕ) (bs : List ℕ) → p b ≡ false → position p bs ≡ None → position p (b ∷ bs) ≡ None
  none_cons b bs h g = past_none (position_or_len p (b ∷ bs)) (suc (length bs)) (by (p b) h)
    where
      le : length bs ≤ position_or_len p bs
      le = none_past (position_or_len p bs) (length bs) g

      by : (t : Bool) → t ≡ false → suc (length bs) ≤ cond (not t) (1 + position_or_len p bs) 0
      by true e = absurd (let never : true ≡ false = e in cc)
      by false e = omega (arith, le)

  none_head : (b : ℕ) (bs : List ℕ) → position p (b ∷ bs) ≡ None → (p b ≡ false) × (position p bs ≡ None)
  none_head b bs h = by (p b) (none_past (position_or_len p (b ∷ bs)) (suc (length bs)) h)
    where
      by : (t : Bool) → suc (length bs) ≤ cond (not t) (1 + position_or_len p bs) 0 → (t ≡ false) × (position p bs ≡ None)
      by true le = absurd (omega arith)
      by false le = (refl, past_none (position_or_len p bs) (length bs) (omega arith))

abbrev odd : ℕ → Bool
odd b = not (is_printable b)

cons : (b : ℕ) (bs : List ℕ) → odd b ≡ false → AllPrintable bs → AllPrintable (b ∷ bs)
cons b bs h g = none_cons odd b bs h g

head : (b : ℕ) (bs : List ℕ) → AllPrintable (b ∷ bs) → (odd b ≡ false) × AllPrintable bs
head b bs h = none_head odd b bs h

-- ---- names

word_odd : (b : ℕ) → is_word b ≡ true → odd (to_ascii_lowercase b) ≡ false
word_odd b h = grind (arith, nat_tests)

letter_word : (b : ℕ) → is_letter b ≡ true → is_word b ≡ true
letter_word b h = rw h refl

pub folded_printable : (bs : List ℕ) → all_are is_word bs ≡ true → AllPrintable (map to_ascii_lowercase bs)
folded_printable [] h = refl
folded_printable (b ∷ bs) h = cons (to_ascii_lowercase b) (map to_ascii_lowercase bs) (word_odd b (and_left (is_word b) (all_are is_word bs) h)) (folded_printable bs (and_right (is_word b) (all_are is_word bs) h))

-- ---- texts

pub unquoted_printable : (seen : Bool) (bs : List ℕ) → AllPrintable bs → AllPrintable (unquoted seen bs)
unquoted_printable seen [] h = refl
unquoted_printable true (b ∷ bs) h = let g = head b bs h in cons b (unquoted false bs) g.0 (unquoted_printable false bs g.1)
unquoted_printable false (b ∷ bs) h = by (eqb b 39) (head b bs h).0 (unquoted_printable true bs (head b bs h).1) (unquoted_printable false bs (head b bs h).1)
  where
    by : (t : Bool) → odd b ≡ false → AllPrintable (unquoted true bs) → AllPrintable (unquoted false bs) → AllPrintable (cond t (unquoted true bs) (b ∷ unquoted false bs))
    by true o x y = x
    by false o x y = cons b (unquoted false bs) o y

pub drop_printable : (bs : List ℕ) → AllPrintable bs → AllPrintable (drop 1 bs)
drop_printable [] h = refl
drop_printable (b ∷ bs) h = (head b bs h).1
