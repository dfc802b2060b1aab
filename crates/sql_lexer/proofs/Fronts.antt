-- What is computed as the token at the front is the longest one there.
use Rattle.std.proofs.Common.{◌≡◌, ℕ, zero, suc, ◌<◌, ◌≤◌, Bool, true, false, cond, eqb, ◌&&◌, List, [], ◌∷◌, length, take, drop, ◌⊎◌, Option, Some, None, refl, sym, ap, subst, ◌∙◌, arith, inl, inr}
use Rattle.std.specs.Prelude.{IfSome, IfNone}
use Rattle.std.specs.List.{prefix_len}
use Rattle.std.specs.Char.{is_ascii_digit}
use Rattle.std.proofs.lemmas.List.{length-take}
use Rattle.std.proofs.lemmas.List.Sums.{prefix_len-le-length}
use Rattle.std.proofs.lemmas.Bool.Decides.{nat_tests}
use Rattle.sql_lexer.specs.declared.kind.Kind.{Kind}
use Rattle.sql_lexer.specs.declared.front.Form.{Form}
use Rattle.sql_lexer.specs.declared.front.Form.TheVariants as form
use Rattle.sql_lexer.specs.Bytes.{is_letter, is_word}
use Rattle.sql_lexer.specs.Forms.{all_are, are_digits, ends_number, is_number, ends_text, symbol, long_symbol, symbol_of, IsToken, starts_quote, IsFront, IsLongest, IsNone}
use Rattle.sql_lexer.specs.Fronts.{fraction_len, number_len, text_len, longer, symbol_front, text_front, front_of}
use Rattle.sql_lexer.proofs.Truths.{and_left, and_right, or_cases, not_both, is_same, differs}
use Rattle.sql_lexer.proofs.Runs.{all_run, run_longest, fraction_longest, fraction_is, number_longest, number_is, TextLen, text_law}

-- ---- what a byte that begins a token of one form doesn't begin

no_symbol : (p : ℕ → Bool) (b : ℕ) → p 40 ≡ false → p 41 ≡ false → p 44 ≡ false → p 59 ≡ false → p 46 ≡ false → p 42 ≡ false → p 43 ≡ false → p 45 ≡ false → p 47 ≡ false → p 61 ≡ false → p 60 ≡ false → p 62 ≡ false
    → p b ≡ true → (bs : List ℕ) → symbol_of (b ∷ bs) ≡ None
no_symbol p b a1 a2 a3 a4 a5 a6 a7 a8 a9 a10 a11 a12 h [] =
    rw (differs p 40 b a1 h, differs p 41 b a2 h, differs p 44 b a3 h, differs p 59 b a4 h, differs p 46 b a5 h, differs p 42 b a6 h, differs p 43 b a7 h, differs p 45 b a8 h, differs p 47 b a9 h, differs p 61 b a10 h, differs p 60 b a11 h, differs p 62 b a12 h) refl
no_symbol p b a1 a2 a3 a4 a5 a6 a7 a8 a9 a10 a11 a12 h (c ∷ []) = rw (differs p 60 b a11 h, differs p 62 b a12 h) refl
no_symbol p b a1 a2 a3 a4 a5 a6 a7 a8 a9 a10 a11 a12 h (c ∷ d ∷ ds) = refl

pub letter_symbol : (b : ℕ) → is_letter b ≡ true → (bs : List ℕ) → symbol_of (b ∷ bs) ≡ None
letter_symbol b h = no_symbol is_letter b refl refl refl refl refl refl refl refl refl refl refl refl h

pub digit_symbol : (b : ℕ) → is_ascii_digit b ≡ true → (bs : List ℕ) → symbol_of (b ∷ bs) ≡ None
digit_symbol b h = no_symbol is_ascii_digit b refl refl refl refl refl refl refl refl refl refl refl refl h

pub quote_symbol : (b : ℕ) → eqb b 39 ≡ true → (bs : List ℕ) → symbol_of (b ∷ bs) ≡ None
quote_symbol b h = no_symbol (λ x. eqb x 39) b refl refl refl refl refl refl refl refl refl refl refl refl h

digit_letter : (b : ℕ) → is_ascii_digit b ≡ true → is_letter b ≡ false
digit_letter b h = grind (arith, nat_tests)

pub letter_number : (b : ℕ) → is_letter b ≡ true → (bs : List ℕ) → is_number (b ∷ bs) ≡ false
letter_number b h bs = rw (by (is_ascii_digit b) refl, differs is_letter 46 b refl h) refl
  where
    by : (t : Bool) → is_ascii_digit b ≡ t → t ≡ false
    by true e = absurd (not_both (is_letter b) h (digit_letter b e))
    by false e = refl

pub quote_number : (b : ℕ) → eqb b 39 ≡ true → (bs : List ℕ) → is_number (b ∷ bs) ≡ false
quote_number b h bs = let e : b ≡ 39 = is_same 39 b h in let P : ℕ → Type 0 = λ x. is_number (x ∷ bs) ≡ false in subst P (sym e) refl

symbol_short : (kind : Kind) (w : List ℕ) → symbol_of w ≡ Some kind → length w ≤ 2
symbol_short kind [] h = omega arith
symbol_short kind (b ∷ []) h = omega arith
symbol_short kind (b ∷ c ∷ []) h = omega arith
symbol_short kind (b ∷ c ∷ d ∷ ds) h = absurd (let never : None ≡ Some kind = h in cc)

pub no_some : {A : Type 0} (o : Option A) (a : A) → o ≡ None → o ≡ Some a → ⊥
no_some o a e f = let never : None ≡ Some a = sym e ∙ f in cc

-- ---- a token of m bytes, by its form

abbrev Words : ℕ → List ℕ → Type 0
Words b w = (is_letter b ≡ true) × (all_are is_word w ≡ true)

-- a bound on each form gives one on all
forms : (P : ℕ → Type 0) (b : ℕ) (bs : List ℕ) → P 0
    → ((m : ℕ) → m ≤ length bs → Words b (take m bs) → P (suc m))
    → ((m : ℕ) → m ≤ length bs → is_number (b ∷ take m bs) ≡ true → P (suc m))
    → ((m : ℕ) → m ≤ length bs → b ≡ 39 → ends_text false (take m bs) ≡ true → starts_quote (drop m bs) ≡ false → P (suc m))
    → ((m : ℕ) (kind : Kind) → m ≤ length bs → symbol_of (b ∷ take m bs) ≡ Some kind → P (suc m))
    → (g : Form) (m : ℕ) → IsFront g m (b ∷ bs) → P m
forms P b bs nil w n t s g zero f = nil
forms P b bs nil w n t s form.Word (suc m) f = w m (omega (arith, f.within)) f.is
forms P b bs nil w n t s form.Number (suc m) f = n m (omega (arith, f.within)) f.is
forms P b bs nil w n t s form.Text (suc m) f = t m (omega (arith, f.within)) f.is.0 f.is.1 f.ends
forms P b bs nil w n t s (form.Symbol kind) (suc m) f = s m kind (omega (arith, f.within)) f.is

-- nothing is no token
pub positive : (f : Form) (n : ℕ) (bytes : List ℕ) → IsFront f n bytes → 0 < n
positive f zero bytes l = absurd (none f l.is)
  where
    none : (f : Form) → IsToken f [] → ⊥
    none form.Word h = h
    none form.Number h = let never : false ≡ true = h in cc
    none form.Text h = h
    none (form.Symbol kind) h = let never : None ≡ Some kind = h in cc
positive f (suc n) bytes l = omega arith

empty : (P : ℕ → Type 0) → P 0 → (g : Form) (m : ℕ) → IsFront g m [] → P m
empty P nil g zero f = nil
empty P nil g (suc m) f = absurd (omega (arith, f.within))

-- ---- each form

word : (b : ℕ) (bs : List ℕ) → is_letter b ≡ true → IsLongest form.Word (suc (prefix_len is_word bs)) (b ∷ bs)
word b bs e = record {
  front = record { within = (let l = prefix_len-le-length is_word bs in omega arith); is = (e, all_run is_word bs); ends = refl };
  longest = forms (λ m. m ≤ suc (prefix_len is_word bs)) b bs (omega arith)
      (λ m le h. let l = run_longest is_word bs m le h.1 in omega arith)
      (λ m le h. absurd (not_both (is_number (b ∷ take m bs)) h (letter_number b e (take m bs))))
      (λ m le h g q. absurd (not_both (eqb b 39) (let P : ℕ → Type 0 = λ x. eqb x 39 ≡ true in subst P (sym h) refl) (differs is_letter 39 b refl e)))
      (λ m kind le h. absurd (no_some (symbol_of (b ∷ take m bs)) kind (letter_symbol b e (take m bs)) h));
}

pub quote_is : (b : ℕ) → b ≡ 39 → eqb b 39 ≡ true
quote_is b h = let P : ℕ → Type 0 = λ x. eqb x 39 ≡ true in subst P (sym h) refl

number : (b : ℕ) (bs : List ℕ) → is_ascii_digit b ≡ true → IsLongest form.Number (suc (number_len bs)) (b ∷ bs)
number b bs e = record {
  front = record { within = (let l = (number_is bs).0 in omega arith); is = whole; ends = refl };
  longest = forms (λ m. m ≤ suc (number_len bs)) b bs (omega arith)
      (λ m le h. absurd (not_both (is_letter b) h.0 (digit_letter b e)))
      (λ m le h. let l = number_longest bs m le (after m h) in omega arith)
      (λ m le h g q. absurd (not_both (eqb b 39) (quote_is b h) (differs is_ascii_digit 39 b refl e)))
      (λ m kind le h. absurd (no_some (symbol_of (b ∷ take m bs)) kind (digit_symbol b e (take m bs)) h));
}
  where
    whole : is_number (b ∷ take (number_len bs) bs) ≡ true
    whole = rw (e, (number_is bs).1) refl

    after : (m : ℕ) → is_number (b ∷ take m bs) ≡ true → ends_number (take m bs) ≡ true
    after m h = by (or_cases (is_ascii_digit b && ends_number (take m bs)) (eqb b 46 && are_digits (take m bs)) h)
      where
        by : (is_ascii_digit b && ends_number (take m bs) ≡ true) ⊎ (eqb b 46 && are_digits (take m bs) ≡ true) → ends_number (take m bs) ≡ true
        by (inl g) = and_right (is_ascii_digit b) (ends_number (take m bs)) g
        by (inr g) = absurd (not_both (eqb b 46) (and_left (eqb b 46) (are_digits (take m bs)) g) (differs is_ascii_digit 46 b refl e))

-- the other bytes begin no word, and a number only with a point and a digit
pub fraction_after : (b : ℕ) (w : List ℕ) → is_ascii_digit b ≡ false → is_number (b ∷ w) ≡ true → (eqb b 46 ≡ true) × (are_digits w ≡ true)
fraction_after b w d h = by (or_cases (is_ascii_digit b && ends_number w) (eqb b 46 && are_digits w) h)
  where
    by : (is_ascii_digit b && ends_number w ≡ true) ⊎ (eqb b 46 && are_digits w ≡ true) → (eqb b 46 ≡ true) × (are_digits w ≡ true)
    by (inl g) = absurd (not_both (is_ascii_digit b) (and_left (is_ascii_digit b) (ends_number w) g) d)
    by (inr g) = (and_left (eqb b 46) (are_digits w) g, and_right (eqb b 46) (are_digits w) g)

text_some : (b : ℕ) (bs : List ℕ) (n : ℕ) → eqb b 39 ≡ true → TextLen false bs (Some n) → IsLongest form.Text (suc n) (b ∷ bs)
text_some b bs n e h = record {
  front = record { within = (let l = h.0 in omega arith); is = (is_same 39 b e, h.1); ends = h.2 };
  longest = forms (λ m. m ≤ suc n) b bs (omega arith)
      (λ m le w. absurd (not_both (eqb b 39) e (differs is_letter 39 b refl w.0)))
      (λ m le w. absurd (not_both (is_number (b ∷ take m bs)) w (quote_number b e (take m bs))))
      (λ m le w g q. let l = h.3 m le g q in omega arith)
      (λ m kind le w. absurd (no_some (symbol_of (b ∷ take m bs)) kind (quote_symbol b e (take m bs)) w));
}

text_none : (b : ℕ) (bs : List ℕ) → eqb b 39 ≡ true → TextLen false bs None → IsNone (b ∷ bs)
text_none b bs e h f m x = by m x (positive f m (b ∷ bs) x)
  where
    by : (m : ℕ) → IsFront f m (b ∷ bs) → 0 < m → ⊥
    by m x lt = forms (λ k. 0 < k → ⊥) b bs (λ l. omega arith)
        (λ m le w l. not_both (eqb b 39) e (differs is_letter 39 b refl w.0))
        (λ m le w l. not_both (is_number (b ∷ take m bs)) w (quote_number b e (take m bs)))
        (λ m le w g q l. h m le g q)
        (λ m kind le w l. no_some (symbol_of (b ∷ take m bs)) kind (quote_symbol b e (take m bs)) w)
        f m x lt

point : (b : ℕ) (bs : List ℕ) → is_letter b ≡ false → is_ascii_digit b ≡ false → eqb (fraction_len (b ∷ bs)) 0 ≡ false → IsLongest form.Number (fraction_len (b ∷ bs)) (b ∷ bs)
point b bs l d h =
    let f = fraction_is b bs h in
    let P : ℕ → Type 0 = λ n. IsLongest form.Number n (b ∷ bs) in
    subst P (sym f.1.1) (record {
      front = record { within = (let w = f.1.3 in omega arith); is = (rw (d, f.0, f.1.2) refl); ends = refl };
      longest = forms (λ m. m ≤ suc f.1.0) b bs (omega arith)
          (λ m le w. absurd (not_both (is_letter b) w.0 l))
          (λ m le w. let g = fraction_after b (take m bs) d w in omega (arith, fraction_longest b bs m le g.0 g.1, f.1.1))
          (λ m le w g q. absurd (not_both (eqb b 46) f.0 (differs (λ x. eqb x 39) 46 b refl (quote_is b w))))
          (λ m kind le w. let s = symbol_short kind (b ∷ take m bs) w in omega (arith, s, length-take m bs, some f.1.0 f.1.2));
    })
  where
    some : (m : ℕ) → are_digits (take m bs) ≡ true → 0 < m
    some zero g = absurd (let never : false ≡ true = g in cc)
    some (suc m) g = omega arith

-- ---- symbols

module _ (b : ℕ) (bs : List ℕ) (l : is_letter b ≡ false) (d : is_ascii_digit b ≡ false) (q : eqb b 39 ≡ false) (z : eqb (fraction_len (b ∷ bs)) 0 ≡ true) where
  only_symbols : (P : ℕ → Type 0) → P 0 → ((m : ℕ) (kind : Kind) → m ≤ length bs → symbol_of (b ∷ take m bs) ≡ Some kind → P (suc m)) → (g : Form) (m : ℕ) → IsFront g m (b ∷ bs) → P m
  only_symbols P nil s =
      forms P b bs nil
      (λ m le w. absurd (not_both (is_letter b) w.0 l))
      (λ m le w. absurd (let g = fraction_after b (take m bs) d w in let none : fraction_len (b ∷ bs) ≡ 0 = is_same 0 (fraction_len (b ∷ bs)) z in omega (arith, none, fraction_longest b bs m le g.0 g.1)))
      (λ m le w g f. absurd (not_both (eqb b 39) (quote_is b w) q))
      s

  pub one_symbol : (kind : Kind) → symbol b ≡ Some kind → ((c : ℕ) (cs : List ℕ) → bs ≡ c ∷ cs → long_symbol b c ≡ None) → IsLongest (form.Symbol kind) 1 (b ∷ bs)
  one_symbol kind e none = record {
    front = record { within = omega arith; is = e; ends = refl };
    longest = only_symbols (λ m. m ≤ 1) (omega arith) (λ m j le h. short bs none m j le h);
  }
    where
      short : (bs : List ℕ) → ((c : ℕ) (cs : List ℕ) → bs ≡ c ∷ cs → long_symbol b c ≡ None) → (m : ℕ) (j : Kind) → m ≤ length bs → symbol_of (b ∷ take m bs) ≡ Some j → suc m ≤ 1
      short bs none zero j le h = omega arith
      short [] none (suc m) j le h = absurd (omega arith)
      short (c ∷ cs) none (suc zero) j le h = absurd (no_some (long_symbol b c) j (none c cs refl) h)
      short (c ∷ []) none (suc (suc m)) j le h = absurd (omega arith)
      short (c ∷ e ∷ cs) none (suc (suc m)) j le h = absurd (let never : None ≡ Some j = h in cc)

  pub no_token : symbol b ≡ None → ((c : ℕ) (cs : List ℕ) → bs ≡ c ∷ cs → long_symbol b c ≡ None) → IsNone (b ∷ bs)
  no_token e none f m x = only_symbols (λ k. 0 < k → ⊥) (λ lt. omega arith) (λ m j le h lt. short bs none m j le h) f m x (positive f m (b ∷ bs) x)
    where
      short : (bs : List ℕ) → ((c : ℕ) (cs : List ℕ) → bs ≡ c ∷ cs → long_symbol b c ≡ None) → (m : ℕ) (j : Kind) → m ≤ length bs → symbol_of (b ∷ take m bs) ≡ Some j → ⊥
      short bs none zero j le h = no_some (symbol b) j e h
      short [] none (suc m) j le h = omega arith
      short (c ∷ cs) none (suc zero) j le h = no_some (long_symbol b c) j (none c cs refl) h
      short (c ∷ []) none (suc (suc m)) j le h = omega arith
      short (c ∷ e ∷ cs) none (suc (suc m)) j le h = let never : None ≡ Some j = h in cc

two_symbol : (b c : ℕ) (cs : List ℕ) → is_letter b ≡ false → is_ascii_digit b ≡ false → eqb b 39 ≡ false → eqb (fraction_len (b ∷ c ∷ cs)) 0 ≡ true → (kind : Kind) → long_symbol b c ≡ Some kind → IsLongest (form.Symbol kind) 2 (b ∷ c ∷ cs)
two_symbol b c cs l d q z kind e = record {
  front = record { within = omega arith; is = e; ends = refl };
  longest = only_symbols b (c ∷ cs) l d q z (λ m. m ≤ 2) (omega arith) (λ m j le h. omega (arith, symbol_short j (b ∷ take m (c ∷ cs)) h, length-take m (c ∷ cs)));
}

abbrev pub Finds : List ℕ → Option (Form × ℕ) → Type 0
Finds bytes o = IfSome o (λ t. IsLongest t.0 t.1 bytes) × IfNone o (IsNone bytes)

symbols : (b : ℕ) (bs : List ℕ) → is_letter b ≡ false → is_ascii_digit b ≡ false → eqb b 39 ≡ false → eqb (fraction_len (b ∷ bs)) 0 ≡ true → Finds (b ∷ bs) (symbol_front b bs)
symbols b [] l d q z = by (symbol b) refl
  where
    by : (o : Option Kind) → symbol b ≡ o → Finds (b ∷ []) (longer None o)
    by (Some kind) e = (one_symbol b [] l d q z kind e (λ c cs f. absurd cc), tt)
    by None e = (tt, no_token b [] l d q z e (λ c cs f. absurd cc))
symbols b (c ∷ cs) l d q z = by (long_symbol b c) (symbol b) refl refl
  where
    same : long_symbol b c ≡ None → (x : ℕ) (xs : List ℕ) → c ∷ cs ≡ x ∷ xs → long_symbol b x ≡ None
    same e x xs f = let g : c ≡ x = cc in ap (long_symbol b) (sym g) ∙ e

    by : (p o : Option Kind) → long_symbol b c ≡ p → symbol b ≡ o → Finds (b ∷ c ∷ cs) (longer p o)
    by (Some kind) o e f = (two_symbol b c cs l d q z kind e, tt)
    by None (Some kind) e f = (one_symbol b (c ∷ cs) l d q z kind f (same e), tt)
    by None None e f = (tt, no_token b (c ∷ cs) l d q z f (same e))

pub finds : (bytes : List ℕ) → Finds bytes (front_of bytes)
finds [] = (tt, λ f m x. empty (λ k. 0 < k → ⊥) (λ lt. omega arith) f m x (positive f m [] x))
finds (b ∷ bs) = by (is_letter b) (is_ascii_digit b) (eqb b 39) (eqb (fraction_len (b ∷ bs)) 0) refl refl refl refl
  where
    text : eqb b 39 ≡ true → (o : Option ℕ) → TextLen false bs o → Finds (b ∷ bs) (text_front o)
    text e (Some n) h = (text_some b bs n e h, tt)
    text e None h = (tt, text_none b bs e h)

    by : (l d q z : Bool) → is_letter b ≡ l → is_ascii_digit b ≡ d → eqb b 39 ≡ q → eqb (fraction_len (b ∷ bs)) 0 ≡ z
        → Finds (b ∷ bs) (cond l (Some (form.Word, suc (prefix_len is_word bs))) (cond d (Some (form.Number, suc (number_len bs))) (cond q (text_front (text_len false bs)) (cond z (symbol_front b bs) (Some (form.Number, fraction_len (b ∷ bs)))))))
    by true d q z el ed eq ez = (word b bs el, tt)
    by false true q z el ed eq ez = (number b bs ed, tt)
    by false false true z el ed eq ez = text eq (text_len false bs) (text_law false bs)
    by false false false true el ed eq ez = symbols b bs el ed eq ez
    by false false false false el ed eq ez = (point b bs el ed ez, tt)

-- the same, of an answer that equals it
pub found_is : (bytes : List ℕ) (o : Option (Form × ℕ)) → o ≡ front_of bytes → IfSome o (λ t. IsLongest t.0 t.1 bytes)
found_is bytes o e = let P : Option (Form × ℕ) → Type 0 = λ x. IfSome x (λ t. IsLongest t.0 t.1 bytes) in subst P (sym e) (finds bytes).0

pub none_is : (bytes : List ℕ) (o : Option (Form × ℕ)) → o ≡ front_of bytes → IfNone o (IsNone bytes)
none_is bytes o e = let P : Option (Form × ℕ) → Type 0 = λ x. IfNone x (IsNone bytes) in subst P (sym e) (finds bytes).1

pub some_is : (bytes : List ℕ) (o : Option (Form × ℕ)) → IfSome o (λ t. IsLongest t.0 t.1 bytes) → IfSome o (λ t. (0 < t.1) × (t.1 ≤ length bytes))
some_is bytes None h = tt
some_is bytes (Some t) h = (positive t.0 t.1 bytes h.front, h.front.within)
