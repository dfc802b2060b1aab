-- Closed bytes are cut into tokens, whatever stands after them.
use Rattle.std.proofs.Common.{◌≡◌, ℕ, zero, suc, ◌+◌, ◌<◌, Bool, true, false, cond, eqb, not, ◌&&◌, List, [], ◌∷◌, ◌++◌, length, take, drop, Option, Some, None, Result, Ok, Err, refl, sym, ap, subst, ◌∙◌, arith}
use Rattle.std.specs.Prelude.{nat_lt}
use Rattle.std.proofs.lemmas.Bool.Decides.{nat_tests}
use Rattle.std.proofs.lemmas.List.{take-append-le, drop-append-le, length-drop}
use Rattle.sql_lexer.specs.declared.fault.LexRefusal.{LexRefusal}
use Rattle.sql_lexer.specs.declared.front.Form.{Form}
use Rattle.sql_lexer.specs.declared.front.Form.TheVariants as form
use Rattle.sql_lexer.specs.declared.kind.Kind.{Kind}
use Rattle.sql_lexer.specs.declared.kind.Kind.TheVariants as k
use Rattle.sql_lexer.specs.declared.token.Content.{Content}
use Rattle.sql_lexer.specs.declared.token.Content.TheVariants as content
use Rattle.sql_lexer.specs.declared.token.Token.{Token}
use Rattle.sql_lexer.specs.Bytes.{is_blank}
use Rattle.sql_lexer.specs.Forms.{made}
use Rattle.sql_lexer.specs.Fronts.{front_of}
use Rattle.sql_lexer.specs.Lexing.{Lexes, gap, token, gap_len, glued, is_comment, starts_letter}
use Rattle.sql_lexer.proofs.Fronts.{Finds, finds}
use Rattle.sql_lexer.proofs.Truths.{and_left, and_right}
use Rattle.sql_templates.specs.Cutting.{bare, with_made, is_safe, cut_front, cut_last, cut}
use Rattle.sql_templates.specs.Standing.{Beside}
use Rattle.sql_templates.proofs.Fronts.{Stays, front_more, not_true}

below : (a b : ℕ) → nat_lt a b ≡ true → a < b
below a b h = grind (arith, nat_tests)

pub blank_step : (start b : ℕ) (bs : List ℕ) (us : List Token) → is_blank b ≡ true → Lexes (start + 1) bs us → Lexes start (b ∷ bs) us
blank_step start b bs us e l =
    let one : gap_len (b ∷ bs) ≡ 1 = rw (e) refl in
    let P : ℕ → Type 0 = λ n. Lexes (start + n) (drop n (b ∷ bs)) us in
    gap (omega (arith, one)) (subst P (sym one) l)

pub token_step : (start b : ℕ) (bs : List ℕ) (f : Form) (n : ℕ) (kind : Kind) (content : Content) (us : List Token)
    → gap_len (b ∷ bs) ≡ 0 → front_of (b ∷ bs) ≡ Some (f, n) → made f (take n (b ∷ bs)) ≡ Ok (kind, content)
    → glued f (drop n (b ∷ bs)) ≡ false → Lexes (start + n) (drop n (b ∷ bs)) us
    → Lexes start (b ∷ bs) (record { kind = kind; content = content; start = start; len = n } ∷ us)
token_step start b bs f n kind content us no_gap front m free l =
    let found : Finds (b ∷ bs) (Some (f, n)) = subst (Finds (b ∷ bs)) front (finds (b ∷ bs)) in
    token f n kind content no_gap found.0 m free l

module _ (R : Token → Token → Type 0) (alike : (t u : Token) → u.kind ≡ t.kind → u.content ≡ t.content → R t u) where
  -- the bytes with others after them are tokens, beside these
  pub record IsCut (start : ℕ) (x r : List ℕ) (ts : List Token) : Type 0 where
    pub found : List Token
    pub lexes : Lexes start (x ++ r) found
    pub beside : Beside R ts found

  -- what the bytes after x are
  pub record Rest (at : ℕ) (r : List ℕ) (ss : List Token) : Type 0 where
    pub found : List Token
    pub lexes : Lexes at r found
    pub beside : Beside R ss found

  moved : (a b : ℕ) (r : List ℕ) (ss : List Token) → a ≡ b → Rest a r ss → Rest b r ss
  moved a b r ss e h = subst (λ n. Rest n r ss) e h

  open_step : (start : ℕ) (r : List ℕ) (ss : List Token) → Rest (start + 1) r ss → IsCut start (40 ∷ []) r (bare k.OpenParen content.Nothing ∷ ss)
  open_step start r ss h = record {
    found = record { kind = k.OpenParen; content = content.Nothing; start = start; len = 1 } ∷ h.found;
    lexes = token_step start 40 r (form.Symbol k.OpenParen) 1 k.OpenParen content.Nothing h.found (no_gap r) (front r) refl refl h.lexes;
    beside = (alike _ _ refl refl, h.beside);
  }
    where
      no_gap : (r : List ℕ) → gap_len (40 ∷ r) ≡ 0
      no_gap [] = refl
      no_gap (c ∷ cs) = refl

      front : (r : List ℕ) → front_of (40 ∷ r) ≡ Some (form.Symbol k.OpenParen, 1)
      front [] = refl
      front (c ∷ cs) = refl

  last_step : (b : ℕ) (ts : List Token) → cut_last b ≡ Some ts → (start : ℕ) (r : List ℕ) (ss : List Token) → Rest (start + 1) r ss → IsCut start (b ∷ []) r (ts ++ ss)
  last_step b ts e start r ss h = by (is_blank b) (eqb b 40) refl refl e
    where
      by : (t q : Bool) → is_blank b ≡ t → eqb b 40 ≡ q → cond t (Some []) (cond q (Some (bare k.OpenParen content.Nothing ∷ [])) None) ≡ Some ts → IsCut start (b ∷ []) r (ts ++ ss)
      by true q et eq e =
          let same : [] ≡ ts = cc in
          let P : List Token → Type 0 = λ x. IsCut start (b ∷ []) r (x ++ ss) in
          subst P same (record { found = h.found; lexes = blank_step start b r h.found et h.lexes; beside = h.beside })
      by false true et eq e =
          let same : bare k.OpenParen content.Nothing ∷ [] ≡ ts = cc in
          let byte : b ≡ 40 = grind (arith, nat_tests) in
          let P : List Token → Type 0 = λ x. IsCut start (b ∷ []) r (x ++ ss) in
          let Q : ℕ → Type 0 = λ x. IsCut start (x ∷ []) r (bare k.OpenParen content.Nothing ∷ ss) in
          subst P same (subst Q (sym byte) (open_step start r ss h))
      by false false et eq e = absurd (let no : None ≡ Some ts = e in cc)

  -- the token at the front of x, whose rest is cut
  front_step : (b c : ℕ) (cs : List ℕ) (f : Form) (n : ℕ) (kind : Kind) (content : Content) → is_blank b ≡ false → is_comment (b ∷ c ∷ cs) ≡ false
      → front_of (b ∷ c ∷ cs) ≡ Some (f, n) → n < length (b ∷ c ∷ cs) → is_safe f b (drop n (b ∷ c ∷ cs)) ≡ true → glued f (drop n (b ∷ c ∷ cs)) ≡ false
      → made f (take n (b ∷ c ∷ cs)) ≡ Ok (kind, content)
      → (start : ℕ) (r : List ℕ) (ts : List Token) → IsCut (start + n) (drop n (b ∷ c ∷ cs)) r ts
      → IsCut start (b ∷ c ∷ cs) r (bare kind content ∷ ts)
  front_step b c cs f n kind content blank comment front lt safe free m start r ts h = record {
    found = record { kind = kind; content = content; start = start; len = n } ∷ h.found;
    lexes = token_step start b (c ∷ (cs ++ r)) f n kind content h.found no_gap there made_there free_there rest_there;
    beside = (alike _ _ refl refl, h.beside);
  }
    where
      x : List ℕ
      x = b ∷ c ∷ cs

      no_gap : gap_len (b ∷ c ∷ (cs ++ r)) ≡ 0
      no_gap = rw (blank, comment) refl

      there : front_of (b ∷ c ∷ (cs ++ r)) ≡ Some (f, n)
      there = (subst (Stays b (c ∷ cs) (front_of (b ∷ c ∷ (cs ++ r)))) front (front_more b (c ∷ cs) r)) lt safe

      made_there : made f (take n (b ∷ c ∷ (cs ++ r))) ≡ Ok (kind, content)
      made_there = ap (made f) (take-append-le n x r (omega (arith, lt))) ∙ m

      dropped : drop n (b ∷ c ∷ (cs ++ r)) ≡ drop n x ++ r
      dropped = drop-append-le n x r (omega (arith, lt))

      starts_more : (y : List ℕ) → 0 < length y → starts_letter (y ++ r) ≡ starts_letter y
      starts_more [] lt = absurd (omega (arith, lt))
      starts_more (d ∷ ds) lt = refl

      glued_more : (f : Form) (y : List ℕ) → 0 < length y → glued f (y ++ r) ≡ glued f y
      glued_more form.Word y lt = refl
      glued_more form.Number y lt = starts_more y lt
      glued_more form.Text y lt = refl
      glued_more (form.Symbol kind) y lt = refl

      free_there : glued f (drop n (b ∷ c ∷ (cs ++ r))) ≡ false
      free_there = ap (glued f) dropped ∙ glued_more f (drop n x) (omega (arith, lt, length-drop n x)) ∙ free

      rest_there : Lexes (start + n) (drop n (b ∷ c ∷ (cs ++ r))) h.found
      rest_there = subst (λ y. Lexes (start + n) y h.found) (sym dropped) h.lexes

  pub segment : (fuel : ℕ) (x : List ℕ) (ts : List Token) → cut fuel x ≡ Some ts → (start : ℕ) (r : List ℕ) (ss : List Token)
      → Rest (start + length x) r ss → IsCut start x r (ts ++ ss)
  unfolding cut
  segment fuel [] ts e start r ss h =
      let same : [] ≡ ts = cc in
      let P : List Token → Type 0 = λ y. IsCut start [] r (y ++ ss) in
      let here : Rest start r ss = moved (start + 0) start r ss (omega arith) h in
      subst P same (record { found = here.found; lexes = here.lexes; beside = here.beside })
  segment zero (b ∷ bs) ts e start r ss h = absurd (let no : None ≡ Some ts = e in cc)
  segment (suc fuel) (b ∷ []) ts e start r ss h = last_step b ts e start r ss h
  segment (suc fuel) (b ∷ c ∷ cs) ts e start r ss h = by (segment fuel) (is_blank b) (is_comment (b ∷ c ∷ cs)) refl refl e
    where
      by_made : ((x : List ℕ) (us : List Token) → cut fuel x ≡ Some us → (at : ℕ) (q : List ℕ) (vs : List Token) → Rest (at + length x) q vs → IsCut at x q (us ++ vs))
          → (f : Form) (n : ℕ) → is_blank b ≡ false → is_comment (b ∷ c ∷ cs) ≡ false → front_of (b ∷ c ∷ cs) ≡ Some (f, n)
          → n < length (b ∷ c ∷ cs) → is_safe f b (drop n (b ∷ c ∷ cs)) ≡ true → glued f (drop n (b ∷ c ∷ cs)) ≡ false
          → (o : Result (Kind × Content) (LexRefusal × ℕ)) → made f (take n (b ∷ c ∷ cs)) ≡ o
          → (p : Option (List Token)) → cut fuel (drop n (b ∷ c ∷ cs)) ≡ p → with_made o p ≡ Some ts → IsCut start (b ∷ c ∷ cs) r (ts ++ ss)
      by_made more f n blank comment front lt safe free (Err refusal) em p ep e = absurd (let no : None ≡ Some ts = e in cc)
      by_made more f n blank comment front lt safe free (Ok (kind, content)) em None ep e = absurd (let no : None ≡ Some ts = e in cc)
      by_made more f n blank comment front lt safe free (Ok (kind, content)) em (Some us) ep e =
          let same : bare kind content ∷ us ≡ ts = cc in
          let P : List Token → Type 0 = λ y. IsCut start (b ∷ c ∷ cs) r (y ++ ss) in
          let far : Rest (start + n + length (drop n (b ∷ c ∷ cs))) r ss = moved (start + length (b ∷ c ∷ cs)) (start + n + length (drop n (b ∷ c ∷ cs))) r ss (omega (arith, lt, length-drop n (b ∷ c ∷ cs))) h in
          let inner : IsCut (start + n) (drop n (b ∷ c ∷ cs)) r (us ++ ss) = more (drop n (b ∷ c ∷ cs)) us ep (start + n) r ss far in
          subst P same (front_step b c cs f n kind content blank comment front lt safe free em start r (us ++ ss) inner)

      by_tests : ((x : List ℕ) (us : List Token) → cut fuel x ≡ Some us → (at : ℕ) (q : List ℕ) (vs : List Token) → Rest (at + length x) q vs → IsCut at x q (us ++ vs))
          → (f : Form) (n : ℕ) → is_blank b ≡ false → is_comment (b ∷ c ∷ cs) ≡ false → front_of (b ∷ c ∷ cs) ≡ Some (f, n)
          → (t : Bool) → nat_lt n (length (b ∷ c ∷ cs)) && (is_safe f b (drop n (b ∷ c ∷ cs)) && not (glued f (drop n (b ∷ c ∷ cs)))) ≡ t
          → cond t (with_made (made f (take n (b ∷ c ∷ cs))) (cut fuel (drop n (b ∷ c ∷ cs)))) None ≡ Some ts → IsCut start (b ∷ c ∷ cs) r (ts ++ ss)
      by_tests more f n blank comment front true et e =
          let lt : nat_lt n (length (b ∷ c ∷ cs)) ≡ true = and_left _ _ et in
          let others : is_safe f b (drop n (b ∷ c ∷ cs)) && not (glued f (drop n (b ∷ c ∷ cs))) ≡ true = and_right (nat_lt n (length (b ∷ c ∷ cs))) (is_safe f b (drop n (b ∷ c ∷ cs)) && not (glued f (drop n (b ∷ c ∷ cs)))) et in
          by_made more f n blank comment front (below n (length (b ∷ c ∷ cs)) lt) (and_left _ _ others) (not_true _ (and_right _ _ others)) (made f (take n (b ∷ c ∷ cs))) refl (cut fuel (drop n (b ∷ c ∷ cs))) refl e
      by_tests more f n blank comment front false et e = absurd (let no : None ≡ Some ts = e in cc)

      by_front : ((x : List ℕ) (us : List Token) → cut fuel x ≡ Some us → (at : ℕ) (q : List ℕ) (vs : List Token) → Rest (at + length x) q vs → IsCut at x q (us ++ vs))
          → is_blank b ≡ false → is_comment (b ∷ c ∷ cs) ≡ false → (o : Option (Form × ℕ)) → front_of (b ∷ c ∷ cs) ≡ o
          → cut_front (cut fuel) b (c ∷ cs) o ≡ Some ts → IsCut start (b ∷ c ∷ cs) r (ts ++ ss)
      by_front more blank comment None eo e = absurd (let no : None ≡ Some ts = e in cc)
      by_front more blank comment (Some (f, n)) eo e = by_tests more f n blank comment eo _ refl e

      by : ((x : List ℕ) (us : List Token) → cut fuel x ≡ Some us → (at : ℕ) (q : List ℕ) (vs : List Token) → Rest (at + length x) q vs → IsCut at x q (us ++ vs))
          → (t q : Bool) → is_blank b ≡ t → is_comment (b ∷ c ∷ cs) ≡ q
          → cond t (cut fuel (c ∷ cs)) (cond q None (cut_front (cut fuel) b (c ∷ cs) (front_of (b ∷ c ∷ cs)))) ≡ Some ts → IsCut start (b ∷ c ∷ cs) r (ts ++ ss)
      by more true q et eq e =
          let far : Rest (start + 1 + length (c ∷ cs)) r ss = moved (start + length (b ∷ c ∷ cs)) (start + 1 + length (c ∷ cs)) r ss (omega arith) h in
          let inner : IsCut (start + 1) (c ∷ cs) r (ts ++ ss) = more (c ∷ cs) ts e (start + 1) r ss far in
          record { found = inner.found; lexes = blank_step start b (c ∷ (cs ++ r)) inner.found et inner.lexes; beside = inner.beside }
      by more false true et eq e = absurd (let no : None ≡ Some ts = e in cc)
      by more false false et eq e = by_front more et eq (front_of (b ∷ c ∷ cs)) refl e
