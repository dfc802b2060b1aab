-- A text between quotes, each quote in it twice, is one token.
use Rattle.std.proofs.Common.{◌≡◌, ℕ, ◌+◌, Bool, true, false, cond, eqb, List, [], ◌∷◌, ◌++◌, length, take, drop, Some, None, Ok, refl, sym, ap, subst, ◌∙◌, arith, append_assoc, length-append}
use Rattle.std.proofs.Math.Seq.{drop-append_seam, take-append_seam}
use Rattle.base_text.specs.Printable.{AllPrintable, first_unprintable}
use Rattle.base_text.proofs.Printables.{append_printable}
use Rattle.sql_lexer.specs.declared.front.Form.TheVariants as form
use Rattle.sql_lexer.specs.declared.kind.Kind.TheVariants as k
use Rattle.sql_lexer.specs.declared.token.Content.TheVariants as content
use Rattle.sql_lexer.specs.declared.token.Token.{Token}
use Rattle.sql_lexer.specs.Forms.{made, text_made, unquoted, starts_quote}
use Rattle.sql_lexer.specs.Fronts.{text_len, text_front, front_of}
use Rattle.sql_lexer.specs.Lexing.{Lexes, gap_len}
use Rattle.sql_templates.specs.Templates.{doubled}
use Rattle.sql_templates.proofs.Cutting.{token_step}

-- after a text's closing quote no other one follows
text_len_end : (r : List ℕ) → starts_quote r ≡ false → text_len true r ≡ Some 0
text_len_end [] e = refl
text_len_end (b ∷ bs) e = rw (e) refl

text_len_doubled : (u r : List ℕ) → starts_quote r ≡ false → text_len false (doubled u ++ 39 ∷ r) ≡ Some (length (doubled u) + 1)
text_len_doubled [] r e = rw (text_len_end r e) refl
text_len_doubled (b ∷ bs) r e = by (eqb b 39) refl (text_len_doubled bs r e)
  where
    by : (t : Bool) → eqb b 39 ≡ t → text_len false (doubled bs ++ 39 ∷ r) ≡ Some (length (doubled bs) + 1)
        → text_len false ((cond t (39 ∷ b ∷ []) (b ∷ []) ++ doubled bs) ++ 39 ∷ r) ≡ Some (length (cond t (39 ∷ b ∷ []) (b ∷ []) ++ doubled bs) + 1)
    by true et h = rw (et, h) (ap Some (omega arith))
    by false et h = rw (et, h) (ap Some (omega arith))

unquoted_doubled : (u : List ℕ) → unquoted false (doubled u ++ 39 ∷ []) ≡ u
unquoted_doubled [] = refl
unquoted_doubled (b ∷ bs) = by (eqb b 39) refl (unquoted_doubled bs)
  where
    by : (t : Bool) → eqb b 39 ≡ t → unquoted false (doubled bs ++ 39 ∷ []) ≡ bs → unquoted false ((cond t (39 ∷ b ∷ []) (b ∷ []) ++ doubled bs) ++ 39 ∷ []) ≡ b ∷ bs
    by true et h = ap (λ x. b ∷ x) h
    by false et h = rw (et) (ap (λ x. b ∷ x) h)

-- bytes that may stand between quotes: some printable text with each quote in it twice
pub record IsDoubled (w : List ℕ) : Type 0 where
  pub plain : List ℕ
  pub is : w ≡ doubled plain
  pub printable : AllPrintable w

-- the token of a text between quotes
pub quote_step : (start : ℕ) (u r : List ℕ) (us : List Token) → AllPrintable (doubled u) → starts_quote r ≡ false
    → Lexes (start + (length (doubled u) + 2)) r us
    → Lexes start (39 ∷ (doubled u ++ 39 ∷ r)) (record { kind = k.Text; content = content.Text u; start = start; len = length (doubled u) + 2 } ∷ us)
quote_step start u r us printable e l =
    token_step start 39 (doubled u ++ 39 ∷ r) form.Text (length (doubled u) + 2) k.Text (content.Text u) us (no_gap (doubled u ++ 39 ∷ r)) front made_is refl rest
  where
    no_gap : (y : List ℕ) → gap_len (39 ∷ y) ≡ 0
    no_gap [] = refl
    no_gap (c ∷ cs) = refl

    long : length (39 ∷ (doubled u ++ 39 ∷ [])) ≡ length (doubled u) + 2
    long = omega (arith, length-append (doubled u) (39 ∷ []))

    apart : 39 ∷ (doubled u ++ 39 ∷ r) ≡ (39 ∷ (doubled u ++ 39 ∷ [])) ++ r
    apart = ap (λ x. 39 ∷ x) (sym (append_assoc (doubled u) (39 ∷ []) r))

    front : front_of (39 ∷ (doubled u ++ 39 ∷ r)) ≡ Some (form.Text, length (doubled u) + 2)
    front = ap text_front (text_len_doubled u r e) ∙ ap (λ m. Some (form.Text, m)) (omega arith)

    taken : take (length (doubled u) + 2) (39 ∷ (doubled u ++ 39 ∷ r)) ≡ 39 ∷ (doubled u ++ 39 ∷ [])
    taken = ap (λ m. take m (39 ∷ (doubled u ++ 39 ∷ r))) (sym long)
        ∙ ap (take (length (39 ∷ (doubled u ++ 39 ∷ [])))) apart ∙ take-append_seam (39 ∷ (doubled u ++ 39 ∷ [])) r

    dropped : drop (length (doubled u) + 2) (39 ∷ (doubled u ++ 39 ∷ r)) ≡ r
    dropped = ap (λ m. drop m (39 ∷ (doubled u ++ 39 ∷ r))) (sym long)
        ∙ ap (drop (length (39 ∷ (doubled u ++ 39 ∷ [])))) apart ∙ drop-append_seam (39 ∷ (doubled u ++ 39 ∷ [])) r

    all_printable : first_unprintable (39 ∷ (doubled u ++ 39 ∷ [])) ≡ None
    all_printable = append_printable (39 ∷ []) (doubled u ++ 39 ∷ []) refl (append_printable (doubled u) (39 ∷ []) printable refl)

    made_is : made form.Text (take (length (doubled u) + 2) (39 ∷ (doubled u ++ 39 ∷ r))) ≡ Ok (k.Text, content.Text u)
    made_is = ap (made form.Text) taken ∙ ap (λ o. text_made o (39 ∷ (doubled u ++ 39 ∷ []))) all_printable
        ∙ ap (λ x. Ok (k.Text, content.Text x)) (unquoted_doubled u)

    rest : Lexes (start + (length (doubled u) + 2)) (drop (length (doubled u) + 2) (39 ∷ (doubled u ++ 39 ∷ r))) us
    rest = subst (λ x. Lexes (start + (length (doubled u) + 2)) x us) (sym dropped) l
