-- How many bytes at the front pass a test, and how many are of a number or a text.
use Rattle.std.proofs.Common.{◌≡◌, ℕ, zero, suc, ◌+◌, ◌<◌, ◌≤◌, Bool, true, false, cond, eqb, ◌||◌, ◌&&◌, List, [], ◌∷◌, length, take, drop, ◌⊎◌, Option, Some, None, refl, sym, subst, ◌∙◌, arith, inl, inr}
use Rattle.std.specs.Option.{option_map}
use Rattle.std.specs.List.{prefix_len}
use Rattle.std.specs.Char.{is_ascii_digit}
use Rattle.std.proofs.lemmas.List.Sums.{prefix_len-le-length}
use Rattle.sql_lexer.specs.Forms.{all_are, are_digits, ends_number, ends_text, starts_quote}
use Rattle.sql_lexer.specs.Fronts.{fraction_len, number_len, text_len}
use Rattle.sql_lexer.proofs.Truths.{and_left, and_right, and_both, or_cases, not_both, is_same, differs}

-- one more byte at the front of a part
cons_take : (P : List ℕ → Type 0) (n b : ℕ) (bs : List ℕ) → P (b ∷ take n bs) → P (take (1 + n) (b ∷ bs))
cons_take P n b bs h = let Q : ℕ → Type 0 = λ m. P (take m (b ∷ bs)) in let same : suc n ≡ 1 + n = omega arith in subst Q same h

pub all_run : (test : ℕ → Bool) (bs : List ℕ) → all_are test (take (prefix_len test bs) bs) ≡ true
all_run test [] = refl
all_run test (b ∷ bs) = by (test b) refl (all_run test bs)
  where
    by : (t : Bool) → test b ≡ t → all_are test (take (prefix_len test bs) bs) ≡ true → all_are test (take (cond t (1 + prefix_len test bs) 0) (b ∷ bs)) ≡ true
    by true e h = cons_take (λ w. all_are test w ≡ true) (prefix_len test bs) b bs (and_both (test b) (all_are test (take (prefix_len test bs) bs)) e h)
    by false e h = refl

pub run_longest : (test : ℕ → Bool) (bs : List ℕ) (m : ℕ) → m ≤ length bs → all_are test (take m bs) ≡ true → m ≤ prefix_len test bs
run_longest test bs zero le h = omega arith
run_longest test [] (suc m) le h = absurd (omega arith)
run_longest test (b ∷ bs) (suc m) le h = by (test b) (and_left (test b) (all_are test (take m bs)) h) (run_longest test bs m (omega arith) (and_right (test b) (all_are test (take m bs)) h))
  where
    by : (t : Bool) → t ≡ true → m ≤ prefix_len test bs → suc m ≤ cond t (1 + prefix_len test bs) 0
    by true e l = omega arith
    by false e l = absurd (let never : false ≡ true = e in cc)

-- ---- digits after a point

some_digits : (bs : List ℕ) (m : ℕ) → m ≤ length bs → are_digits (take m bs) ≡ true → (0 < m) × (m ≤ prefix_len is_ascii_digit bs)
some_digits bs zero le h = absurd (let never : false ≡ true = h in cc)
some_digits [] (suc m) le h = absurd (omega arith)
some_digits (b ∷ bs) (suc m) le h = (omega arith, run_longest is_ascii_digit (b ∷ bs) (suc m) le h)

digits_run : (bs : List ℕ) → (eqb (prefix_len is_ascii_digit bs) 0 ≡ false) → are_digits (take (prefix_len is_ascii_digit bs) bs) ≡ true
digits_run [] h = absurd (let never : true ≡ false = h in cc)
digits_run (b ∷ bs) h = by (is_ascii_digit b) refl h
  where
    by : (t : Bool) → is_ascii_digit b ≡ t → eqb (cond t (1 + prefix_len is_ascii_digit bs) 0) 0 ≡ false → are_digits (take (cond t (1 + prefix_len is_ascii_digit bs) 0) (b ∷ bs)) ≡ true
    by true e g = cons_take (λ w. are_digits w ≡ true) (prefix_len is_ascii_digit bs) b bs (and_both (is_ascii_digit b) (all_are is_ascii_digit (take (prefix_len is_ascii_digit bs) bs)) e (all_run is_ascii_digit bs))
    by false e g = absurd (let never : true ≡ false = g in cc)

-- a point with digits after it, of m bytes in all
pub fraction_longest : (b : ℕ) (bs : List ℕ) (m : ℕ) → m ≤ length bs → eqb b 46 ≡ true → are_digits (take m bs) ≡ true → suc m ≤ fraction_len (b ∷ bs)
fraction_longest b bs m le p h = by (eqb b 46) (eqb (prefix_len is_ascii_digit bs) 0) p refl (some_digits bs m le h)
  where
    by : (t z : Bool) → t ≡ true → eqb (prefix_len is_ascii_digit bs) 0 ≡ z → (0 < m) × (m ≤ prefix_len is_ascii_digit bs) → suc m ≤ cond t (cond z 0 (1 + prefix_len is_ascii_digit bs)) 0
    by true true e f d = absurd (let none : prefix_len is_ascii_digit bs ≡ 0 = is_same 0 (prefix_len is_ascii_digit bs) f in omega (arith, d.0, d.1))
    by true false e f d = omega (arith, d.1)
    by false z e f d = absurd (let never : false ≡ true = e in cc)

-- a number from its point on
pub fraction_is : (b : ℕ) (bs : List ℕ) → eqb (fraction_len (b ∷ bs)) 0 ≡ false → (eqb b 46 ≡ true) × ((m : ℕ) × (fraction_len (b ∷ bs) ≡ suc m) × (are_digits (take m bs) ≡ true) × (m ≤ length bs))
fraction_is b bs h = by (eqb b 46) (eqb (prefix_len is_ascii_digit bs) 0) refl refl h
  where
    by : (t z : Bool) → eqb b 46 ≡ t → eqb (prefix_len is_ascii_digit bs) 0 ≡ z → eqb (cond t (cond z 0 (1 + prefix_len is_ascii_digit bs)) 0) 0 ≡ false
        → (t ≡ true) × ((m : ℕ) × (cond t (cond z 0 (1 + prefix_len is_ascii_digit bs)) 0 ≡ suc m) × (are_digits (take m bs) ≡ true) × (m ≤ length bs))
    by true true e f g = absurd (let never : true ≡ false = g in cc)
    by true false e f g = (refl, (prefix_len is_ascii_digit bs, omega arith, digits_run bs f, prefix_len-le-length is_ascii_digit bs))
    by false z e f g = absurd (let never : true ≡ false = g in cc)

-- ---- the bytes of a number after its first digit

digit_no_point : (b : ℕ) → is_ascii_digit b ≡ true → eqb b 46 ≡ false
digit_no_point b h = differs is_ascii_digit 46 b refl h

pub number_longest : (bs : List ℕ) (m : ℕ) → m ≤ length bs → ends_number (take m bs) ≡ true → m ≤ number_len bs
number_longest bs zero le h = omega arith
number_longest [] (suc m) le h = absurd (omega arith)
number_longest (b ∷ bs) (suc m) le h = by (is_ascii_digit b) refl (λ g. number_longest bs m (omega arith) g) (or_cases (is_ascii_digit b && ends_number (take m bs)) (eqb b 46 && are_digits (take m bs)) h)
  where
    by : (t : Bool) → is_ascii_digit b ≡ t → (ends_number (take m bs) ≡ true → m ≤ number_len bs) → (is_ascii_digit b && ends_number (take m bs) ≡ true) ⊎ (eqb b 46 && are_digits (take m bs) ≡ true) → suc m ≤ cond t (1 + number_len bs) (fraction_len (b ∷ bs))
    by true e ih (inl g) = let l = ih (and_right (is_ascii_digit b) (ends_number (take m bs)) g) in omega arith
    by true e ih (inr g) = absurd (not_both (eqb b 46) (and_left (eqb b 46) (are_digits (take m bs)) g) (digit_no_point b e))
    by false e ih (inl g) = absurd (not_both (is_ascii_digit b) (and_left (is_ascii_digit b) (ends_number (take m bs)) g) e)
    by false e ih (inr g) = fraction_longest b bs m (omega arith) (and_left (eqb b 46) (are_digits (take m bs)) g) (and_right (eqb b 46) (are_digits (take m bs)) g)

or_left : (a b : Bool) → a ≡ true → a || b ≡ true
or_left a b h = rw h refl

or_right : (a b : Bool) → b ≡ true → a || b ≡ true
or_right true b h = refl
or_right false b h = h

pub number_is : (bs : List ℕ) → (number_len bs ≤ length bs) × (ends_number (take (number_len bs) bs) ≡ true)
number_is [] = (omega arith, refl)
number_is (b ∷ bs) = by (is_ascii_digit b) refl (number_is bs)
  where
    fraction : (z : Bool) → eqb (fraction_len (b ∷ bs)) 0 ≡ z → (fraction_len (b ∷ bs) ≤ suc (length bs)) × (ends_number (take (fraction_len (b ∷ bs)) (b ∷ bs)) ≡ true)
    fraction true e =
        let none : fraction_len (b ∷ bs) ≡ 0 = is_same 0 (fraction_len (b ∷ bs)) e in
        (omega arith, let P : ℕ → Type 0 = λ n. ends_number (take n (b ∷ bs)) ≡ true in subst P (sym none) refl)
    fraction false e =
        let f = fraction_is b bs e in
        let P : ℕ → Type 0 = λ n. ends_number (take n (b ∷ bs)) ≡ true in
        let le : f.1.0 ≤ length bs = f.1.3 in
        (omega (arith, f.1.1, f.1.3), subst P (sym f.1.1) (or_right (is_ascii_digit b && ends_number (take f.1.0 bs)) (eqb b 46 && are_digits (take f.1.0 bs)) (and_both (eqb b 46) (are_digits (take f.1.0 bs)) f.0 f.1.2)))

    by : (t : Bool) → is_ascii_digit b ≡ t → (number_len bs ≤ length bs) × (ends_number (take (number_len bs) bs) ≡ true)
        → (cond t (1 + number_len bs) (fraction_len (b ∷ bs)) ≤ suc (length bs)) × (ends_number (take (cond t (1 + number_len bs) (fraction_len (b ∷ bs))) (b ∷ bs)) ≡ true)
    by true e h =
        (omega (arith, h.0), cons_take (λ w. ends_number w ≡ true) (number_len bs) b bs (or_left (is_ascii_digit b && ends_number (take (number_len bs) bs)) (eqb b 46 && are_digits (take (number_len bs) bs)) (and_both (is_ascii_digit b) (ends_number (take (number_len bs) bs)) e h.1)))
    by false e h = fraction (eqb (fraction_len (b ∷ bs)) 0) refl

-- the digits, and then the point and its digits
pub number_split : (bs : List ℕ) → number_len bs ≡ prefix_len is_ascii_digit bs + fraction_len (drop (prefix_len is_ascii_digit bs) bs)
number_split [] = refl
number_split (b ∷ bs) = by (is_ascii_digit b) (number_split bs)
  where
    by : (t : Bool) → number_len bs ≡ prefix_len is_ascii_digit bs + fraction_len (drop (prefix_len is_ascii_digit bs) bs)
        → cond t (1 + number_len bs) (fraction_len (b ∷ bs)) ≡ cond t (1 + prefix_len is_ascii_digit bs) 0 + fraction_len (drop (cond t (1 + prefix_len is_ascii_digit bs) 0) (b ∷ bs))
    by true e =
        let P : ℕ → Type 0 = λ n. 1 + number_len bs ≡ n + fraction_len (drop n (b ∷ bs)) in
        let same : suc (prefix_len is_ascii_digit bs) ≡ 1 + prefix_len is_ascii_digit bs = omega arith in
        let here : 1 + number_len bs ≡ suc (prefix_len is_ascii_digit bs) + fraction_len (drop (prefix_len is_ascii_digit bs) bs) = omega (arith, e) in
        subst P same here
    by false e = omega arith

-- ---- the bytes of a text after its opening quote

abbrev pub TextLen : Bool → List ℕ → Option ℕ → Type 0
TextLen seen bs (Some n) = (n ≤ length bs) × (ends_text seen (take n bs) ≡ true) × (starts_quote (drop n bs) ≡ false) × ((m : ℕ) → m ≤ length bs → ends_text seen (take m bs) ≡ true → starts_quote (drop m bs) ≡ false → m ≤ n)
TextLen seen bs None = (m : ℕ) → m ≤ length bs → ends_text seen (take m bs) ≡ true → starts_quote (drop m bs) ≡ false → ⊥

-- one byte more before the rest of a text
text_step : (seen next : Bool) (b : ℕ) (bs : List ℕ) → ((w : List ℕ) → ends_text seen (b ∷ w) ≡ ends_text next w) → (seen ≡ true → eqb b 39 ≡ true) → (o : Option ℕ) → TextLen next bs o → TextLen seen (b ∷ bs) (option_map (λ n. n + 1) o)
text_step seen next b bs same quote (Some n) h = (
  omega (arith, h.0),
  (let P : ℕ → Type 0 = λ k. ends_text seen (take k (b ∷ bs)) ≡ true in let e : suc n ≡ n + 1 = omega arith in subst P e (same (take n bs) ∙ h.1)),
  (let P : ℕ → Type 0 = λ k. starts_quote (drop k (b ∷ bs)) ≡ false in let e : suc n ≡ n + 1 = omega arith in subst P e h.2),
  longest,
)
  where
    longest : (m : ℕ) → m ≤ suc (length bs) → ends_text seen (take m (b ∷ bs)) ≡ true → starts_quote (drop m (b ∷ bs)) ≡ false → m ≤ n + 1
    longest zero le g f = omega arith
    longest (suc m) le g f = let l = h.3 m (omega arith) (sym (same (take m bs)) ∙ g) f in omega arith
text_step seen next b bs same quote None h = never
  where
    never : (m : ℕ) → m ≤ suc (length bs) → ends_text seen (take m (b ∷ bs)) ≡ true → starts_quote (drop m (b ∷ bs)) ≡ false → ⊥
    never zero le g f = not_both (eqb b 39) (quote g) f
    never (suc m) le g f = h m (omega arith) (sym (same (take m bs)) ∙ g) f

pub text_law : (seen : Bool) (bs : List ℕ) → TextLen seen bs (text_len seen bs)
text_law true [] = (omega arith, refl, refl, λ m le g f. omega arith)
text_law false [] = nothing
  where
    nothing : (m : ℕ) → m ≤ 0 → ends_text false (take m []) ≡ true → starts_quote (drop m []) ≡ false → ⊥
    nothing zero le g f = let never : false ≡ true = g in cc
    nothing (suc m) le g f = omega arith
text_law true (b ∷ bs) = by (eqb b 39) refl (text_law false bs)
  where
    alone : eqb b 39 ≡ false → (m : ℕ) → m ≤ suc (length bs) → ends_text true (take m (b ∷ bs)) ≡ true → m ≤ 0
    alone e zero le g = omega arith
    alone e (suc m) le g = absurd (not_both (eqb b 39) (and_left (eqb b 39) (ends_text false (take m bs)) g) e)

    by : (t : Bool) → eqb b 39 ≡ t → TextLen false bs (text_len false bs) → TextLen true (b ∷ bs) (cond t (option_map (λ n. n + 1) (text_len false bs)) (Some 0))
    by true e h = text_step true false b bs (λ w. rw e refl) (λ _. e) (text_len false bs) h
    by false e h = (omega arith, refl, e, λ m le g f. alone e m le g)
text_law false (b ∷ bs) = text_step false (eqb b 39) b bs (λ w. refl) (λ h. absurd (let never : false ≡ true = h in cc)) (text_len (eqb b 39) bs) (text_law (eqb b 39) bs)
