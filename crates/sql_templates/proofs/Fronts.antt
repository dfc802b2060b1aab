-- The token at the front stays where more bytes come at the end.
use Rattle.std.proofs.Common.{◌≡◌, ℕ, zero, suc, ◌+◌, ◌<◌, Bool, true, false, cond, eqb, not, List, [], ◌∷◌, ◌++◌, length, drop, Option, Some, None, refl, sym, ap, subst, ◌∙◌, arith}
use Rattle.std.specs.Option.{option_map}
use Rattle.std.specs.List.{prefix_len}
use Rattle.std.specs.Char.{is_ascii_digit}
use Rattle.std.proofs.lemmas.List.Folds.{prefix_len-append}
use Rattle.std.proofs.lemmas.Bool.Decides.{nat_tests}
use Rattle.sql_lexer.specs.declared.kind.Kind.{Kind}
use Rattle.sql_lexer.specs.declared.front.Form.{Form}
use Rattle.sql_lexer.specs.declared.front.Form.TheVariants as form
use Rattle.sql_lexer.specs.Bytes.{is_letter, is_word}
use Rattle.sql_lexer.specs.Forms.{symbol, long_symbol}
use Rattle.sql_lexer.specs.Fronts.{fraction_len, number_len, text_len, longer, symbol_front, text_front, front_of}
use Rattle.sql_lexer.proofs.Truths.{and_left, and_right}
use Rattle.sql_templates.specs.Cutting.{head_of, is_safe}

pub never : {A : Type 0} → false ≡ true → A
never e = absurd (let no : false ≡ true = e in cc)

pub prefix_more : (p : ℕ → Bool) (xs r : List ℕ) → prefix_len p xs < length xs → prefix_len p (xs ++ r) ≡ prefix_len p xs
prefix_more p xs r lt = prefix_len-append p xs r ∙ by (eqb (prefix_len p xs) (length xs)) refl
  where
    by : (t : Bool) → eqb (prefix_len p xs) (length xs) ≡ t → cond t (length xs + prefix_len p r) (prefix_len p xs) ≡ prefix_len p xs
    by true e = absurd (grind (arith, nat_tests))
    by false e = refl

pub fraction_more : (bs r : List ℕ) → fraction_len bs < length bs → 0 < fraction_len bs → fraction_len (bs ++ r) ≡ fraction_len bs
fraction_more [] r lt some = absurd (omega arith)
fraction_more (b ∷ bs) r lt some = by (eqb b 46) (eqb (prefix_len is_ascii_digit bs) 0) refl refl lt some
  where
    by : (t z : Bool) → eqb b 46 ≡ t → eqb (prefix_len is_ascii_digit bs) 0 ≡ z
        → cond t (cond z 0 (1 + prefix_len is_ascii_digit bs)) 0 < suc (length bs) → 0 < cond t (cond z 0 (1 + prefix_len is_ascii_digit bs)) 0
        → cond t (cond (eqb (prefix_len is_ascii_digit (bs ++ r)) 0) 0 (1 + prefix_len is_ascii_digit (bs ++ r))) 0 ≡ cond t (cond z 0 (1 + prefix_len is_ascii_digit bs)) 0
    by true true e f lt some = absurd (omega arith)
    by true false e f lt some = rw (prefix_more is_ascii_digit bs r (omega arith), f) refl
    by false z e f lt some = absurd (omega arith)

-- a byte that is no point begins no fraction
pub no_fraction : (b : ℕ) (bs : List ℕ) → eqb b 46 ≡ false → fraction_len (b ∷ bs) ≡ 0
no_fraction b bs e = rw (e) refl

pub number_more : (bs r : List ℕ) → number_len bs < length bs → eqb (head_of (drop (number_len bs) bs)) 46 ≡ false → number_len (bs ++ r) ≡ number_len bs
number_more [] r lt h = absurd (omega arith)
number_more (b ∷ bs) r lt h = by (number_more bs r) (is_ascii_digit b) refl lt h
  where
    head_at : eqb (head_of (drop (1 + number_len bs) (b ∷ bs))) 46 ≡ false → eqb (head_of (drop (number_len bs) bs)) 46 ≡ false
    head_at h = let one : 1 + number_len bs ≡ suc (number_len bs) = omega arith in subst (λ n. eqb (head_of (drop n (b ∷ bs))) 46 ≡ false) one h

    last : (f : ℕ) → fraction_len (b ∷ bs) ≡ f → f < suc (length bs) → eqb (head_of (drop f (b ∷ bs))) 46 ≡ false → fraction_len (b ∷ (bs ++ r)) ≡ f
    last zero e lt h = no_fraction b (bs ++ r) h
    last (suc n) e lt h = fraction_more (b ∷ bs) r (rw (e) lt) (omega (arith, e)) ∙ e

    by : (number_len bs < length bs → eqb (head_of (drop (number_len bs) bs)) 46 ≡ false → number_len (bs ++ r) ≡ number_len bs)
        → (t : Bool) → is_ascii_digit b ≡ t → cond t (1 + number_len bs) (fraction_len (b ∷ bs)) < suc (length bs)
        → eqb (head_of (drop (cond t (1 + number_len bs) (fraction_len (b ∷ bs))) (b ∷ bs))) 46 ≡ false
        → cond t (1 + number_len (bs ++ r)) (fraction_len (b ∷ (bs ++ r))) ≡ cond t (1 + number_len bs) (fraction_len (b ∷ bs))
    by more true e lt h = ap (λ n. 1 + n) (more (omega (arith, lt)) (head_at h))
    by more false e lt h = last (fraction_len (b ∷ bs)) refl lt h

some_more : (o : Option ℕ) (n : ℕ) → option_map (λ m. m + 1) o ≡ Some n → (m : ℕ) × (o ≡ Some m) × (n ≡ m + 1)
some_more (Some m) n e = (m, refl, (let same : Some (m + 1) ≡ Some n = e in cc))
some_more None n e = absurd (let no : None ≡ Some n = e in cc)

pub text_more : (seen : Bool) (bs r : List ℕ) (n : ℕ) → text_len seen bs ≡ Some n → n < length bs → text_len seen (bs ++ r) ≡ Some n
text_more seen [] r n e lt = absurd (omega arith)
text_more true (b ∷ bs) r n e lt = by (text_more false bs r) (eqb b 39) e
  where
    by : ((m : ℕ) → text_len false bs ≡ Some m → m < length bs → text_len false (bs ++ r) ≡ Some m)
        → (t : Bool) → cond t (option_map (λ m. m + 1) (text_len false bs)) (Some 0) ≡ Some n
        → cond t (option_map (λ m. m + 1) (text_len false (bs ++ r))) (Some 0) ≡ Some n
    by more true e =
        let s = some_more (text_len false bs) n e in
        let inner = more s.0 s.1 (omega (arith, lt, s.2)) in
        ap (option_map (λ m. m + 1)) inner ∙ ap Some (sym s.2)
    by more false e = e
text_more false (b ∷ bs) r n e lt =
    let s = some_more (text_len (eqb b 39) bs) n e in
    let inner = text_more (eqb b 39) bs r s.0 s.1 (omega (arith, lt, s.2)) in
    ap (option_map (λ m. m + 1)) inner ∙ ap Some (sym s.2)

-- the token that was at the front is there still, where these hold of it
abbrev pub Stays : ℕ → List ℕ → Option (Form × ℕ) → Option (Form × ℕ) → Type 0
Stays b bs now None = Unit {0}
Stays b bs now (Some (f, n)) =
    n < suc (length bs) → is_safe f b (drop n (b ∷ bs)) ≡ true → now ≡ Some (f, n)

pub not_true : (t : Bool) → not t ≡ true → t ≡ false
not_true true e = never e
not_true false e = refl

-- the token, chosen by what its first byte is
abbrev chosen : (l d q z : Bool) → Option (Form × ℕ) → Option (Form × ℕ) → Option (Form × ℕ) → Option (Form × ℕ) → Option (Form × ℕ) → Option (Form × ℕ)
chosen l d q z word number text symbol fraction = cond l word (cond d number (cond q text (cond z symbol fraction)))

module _ (b : ℕ) (bs r : List ℕ) where
  text_stays : (o : Option ℕ) → text_len false bs ≡ o → Stays b bs (text_front (text_len false (bs ++ r))) (text_front o)
  text_stays None e = tt
  text_stays (Some n) e = λ lt s. ap text_front (text_more false bs r n e (omega (arith, lt)))

symbol_stays : (b : ℕ) (bs r : List ℕ) → eqb (fraction_len (b ∷ bs)) 0 ≡ true
    → Stays b bs (cond (eqb (fraction_len (b ∷ (bs ++ r))) 0) (symbol_front b (bs ++ r)) (Some (form.Number, fraction_len (b ∷ (bs ++ r))))) (symbol_front b bs)
symbol_stays b [] r z = short (symbol b)
  where
    short : (o : Option Kind)
        → Stays b [] (cond (eqb (fraction_len (b ∷ r)) 0) (symbol_front b r) (Some (form.Number, fraction_len (b ∷ r)))) (longer None o)
    short None = tt
    short (Some kind) = λ lt s. absurd (omega (arith, lt))
symbol_stays b (c ∷ cs) r z = by (long_symbol b c) (symbol b) (none (eqb b 46) (is_ascii_digit c) z)
  where
    none : (p d : Bool) → eqb (cond p (cond (eqb (cond d (1 + prefix_len is_ascii_digit cs) 0) 0) 0 (1 + cond d (1 + prefix_len is_ascii_digit cs) 0)) 0) 0 ≡ true
        → eqb (cond p (cond (eqb (cond d (1 + prefix_len is_ascii_digit (cs ++ r)) 0) 0) 0 (1 + cond d (1 + prefix_len is_ascii_digit (cs ++ r)) 0)) 0) 0 ≡ true
    none true true e = absurd (grind (arith, nat_tests))
    none true false e = refl
    none false d e = refl

    by : (o p : Option Kind) → eqb (fraction_len (b ∷ c ∷ (cs ++ r))) 0 ≡ true
        → Stays b (c ∷ cs) (cond (eqb (fraction_len (b ∷ c ∷ (cs ++ r))) 0) (longer o p) (Some (form.Number, fraction_len (b ∷ c ∷ (cs ++ r))))) (longer o p)
    by None None e = tt
    by (Some kind) p e = λ lt s. rw (e) refl
    by None (Some kind) e = λ lt s. rw (e) refl

pub front_more : (b : ℕ) (bs r : List ℕ) → Stays b bs (front_of (b ∷ (bs ++ r))) (front_of (b ∷ bs))
front_more b bs r = by (is_letter b) (is_ascii_digit b) (eqb b 39) (eqb (fraction_len (b ∷ bs)) 0) refl
  where
    by : (l d q z : Bool) → eqb (fraction_len (b ∷ bs)) 0 ≡ z
        → Stays b bs (chosen l d q (eqb (fraction_len (b ∷ (bs ++ r))) 0) (Some (form.Word, suc (prefix_len is_word (bs ++ r)))) (Some (form.Number, suc (number_len (bs ++ r)))) (text_front (text_len false (bs ++ r))) (symbol_front b (bs ++ r)) (Some (form.Number, fraction_len (b ∷ (bs ++ r)))))
        (chosen l d q z (Some (form.Word, suc (prefix_len is_word bs))) (Some (form.Number, suc (number_len bs))) (text_front (text_len false bs)) (symbol_front b bs) (Some (form.Number, fraction_len (b ∷ bs))))
    by true d q z e = λ lt s. ap (λ k. Some (form.Word, suc k)) (prefix_more is_word bs r (omega (arith, lt)))
    by false true q z e = λ lt s. ap (λ k. Some (form.Number, suc k)) (number_more bs r (omega (arith, lt)) (not_true _ (and_left _ _ s)))
    by false false true z e = text_stays b bs r (text_len false bs) refl
    by false false false true e = symbol_stays b bs r e
    by false false false false e = λ lt s. absurd (let none = no_fraction b bs (not_true _ (and_right _ _ s)) in grind (arith, nat_tests))
