-- The tokens of bytes, computed with their places.
use Rattle.std.proofs.Common.{◌≡◌, ℕ, zero, suc, ◌+◌, Bool, true, false, List, [], ◌∷◌, take, drop, Option, Some, None, Result, Ok, Err, refl, ap, subst}
use Rattle.std.specs.Option.{option_map}
use Rattle.sql_lexer.specs.declared.fault.LexRefusal.{LexRefusal}
use Rattle.sql_lexer.specs.declared.front.Form.{Form}
use Rattle.sql_lexer.specs.declared.kind.Kind.{Kind}
use Rattle.sql_lexer.specs.declared.token.Content.{Content}
use Rattle.sql_lexer.specs.declared.token.Token.{Token}
use Rattle.sql_lexer.specs.Bytes.{is_blank}
use Rattle.sql_lexer.specs.Forms.{made}
use Rattle.sql_lexer.specs.Fronts.{front_of}
use Rattle.sql_lexer.specs.Lexing.{Lexes, done, gap_len, glued, is_comment}
use Rattle.sql_templates.proofs.Cutting.{blank_step, token_step}

-- what was made of a token's bytes, before the others
abbrev with_made : ℕ → ℕ → Result (Kind × Content) (LexRefusal × ℕ) → Option (List Token) → Option (List Token)
with_made start n (Ok (kind, content)) others = option_map (λ ts. record { kind = kind; content = content; start = start; len = n } ∷ ts) others
with_made start n (Err refusal) others = None

-- none where a letter is glued to the token
abbrev unless_glued : Bool → Option (List Token) → Option (List Token)
unless_glued true others = None
unless_glued false others = others

-- the token at the front and those after it
abbrev with_front : (ℕ → List ℕ → Option (List Token)) → ℕ → List ℕ → Option (Form × ℕ) → Option (List Token)
with_front more start bytes None = None
with_front more start bytes (Some (f, n)) =
    unless_glued (glued f (drop n bytes)) (with_made start n (made f (take n bytes)) (more (start + n) (drop n bytes)))

-- a blank or a token, and what comes after it
abbrev with_next : (ℕ → List ℕ → Option (List Token)) → ℕ → ℕ → List ℕ → Bool → Bool → Option (List Token)
with_next more start b bs true comment = more (start + 1) bs
with_next more start b bs false true = None
with_next more start b bs false false = with_front more start (b ∷ bs) (front_of (b ∷ bs))

-- the tokens of bytes without comments; the first number bounds the tokens and blanks
unfoldable pub lexed : ℕ → ℕ → List ℕ → Option (List Token)
lexed zero start [] = Some []
lexed zero start (b ∷ bs) = None
lexed (suc fuel) start [] = Some []
lexed (suc fuel) start (b ∷ bs) = with_next (lexed fuel) start b bs (is_blank b) (is_comment (b ∷ bs))

no_gap : (b : ℕ) (bs : List ℕ) → is_blank b ≡ false → is_comment (b ∷ bs) ≡ false → gap_len (b ∷ bs) ≡ 0
no_gap b bs e f = rw (e, f) refl

none_at : (at : ℕ) (ts : List Token) → ◌≡◌ {A = Option (List Token)} (Some []) (Some ts) → Lexes at [] ts
none_at at ts e = let same : [] ≡ ts = cc in subst (Lexes at []) same done

module _ (more : ℕ → List ℕ → Option (List Token)) (right : (start : ℕ) (bytes : List ℕ) (ts : List Token) → more start bytes ≡ Some ts → Lexes start bytes ts)
    (start b : ℕ) (bs : List ℕ) (ts : List Token) where
  by_made : (f : Form) (n : ℕ) (m : Result (Kind × Content) (LexRefusal × ℕ)) (others : Option (List Token)) → gap_len (b ∷ bs) ≡ 0 → front_of (b ∷ bs) ≡ Some (f, n)
      → glued f (drop n (b ∷ bs)) ≡ false → made f (take n (b ∷ bs)) ≡ m → more (start + n) (drop n (b ∷ bs)) ≡ others → with_made start n m others ≡ Some ts → Lexes start (b ∷ bs) ts
  by_made f n (Ok (kind, content)) (Some us) gap front free is later e =
      let same : record { kind = kind; content = content; start = start; len = n } ∷ us ≡ ts = cc in
      subst (Lexes start (b ∷ bs)) same (token_step start b bs f n kind content us gap front is free (right (start + n) (drop n (b ∷ bs)) us later))
  by_made f n (Ok (kind, content)) None gap front free is later e = cc
  by_made f n (Err refusal) others gap front free is later e = cc

  by_glued : (f : Form) (n : ℕ) (g : Bool) → gap_len (b ∷ bs) ≡ 0 → front_of (b ∷ bs) ≡ Some (f, n) → glued f (drop n (b ∷ bs)) ≡ g
      → unless_glued g (with_made start n (made f (take n (b ∷ bs))) (more (start + n) (drop n (b ∷ bs)))) ≡ Some ts → Lexes start (b ∷ bs) ts
  by_glued f n true gap front free e = cc
  by_glued f n false gap front free e = by_made f n (made f (take n (b ∷ bs))) (more (start + n) (drop n (b ∷ bs))) gap front free refl refl e

  by_front : (o : Option (Form × ℕ)) → gap_len (b ∷ bs) ≡ 0 → front_of (b ∷ bs) ≡ o → with_front more start (b ∷ bs) o ≡ Some ts → Lexes start (b ∷ bs) ts
  by_front None gap front e = cc
  by_front (Some (f, n)) gap front e = by_glued f n (glued f (drop n (b ∷ bs))) gap front refl e

  by_next : (blank comment : Bool) → is_blank b ≡ blank → is_comment (b ∷ bs) ≡ comment → with_next more start b bs blank comment ≡ Some ts → Lexes start (b ∷ bs) ts
  by_next true comment e f g = blank_step start b bs ts e (right (start + 1) bs ts g)
  by_next false true e f g = cc
  by_next false false e f g = by_front (front_of (b ∷ bs)) (no_gap b bs e f) refl g

pub lexed_is : (fuel start : ℕ) (bytes : List ℕ) (ts : List Token) → lexed fuel start bytes ≡ Some ts → Lexes start bytes ts
unfolding lexed
lexed_is zero start [] ts e = none_at start ts e
lexed_is zero start (b ∷ bs) ts e = cc
lexed_is (suc fuel) start [] ts e = none_at start ts e
lexed_is (suc fuel) start (b ∷ bs) ts e = by_next (lexed fuel) (lexed_is fuel) start b bs ts (is_blank b) (is_comment (b ∷ bs)) refl refl e
