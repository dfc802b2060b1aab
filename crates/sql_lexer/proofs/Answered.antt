-- Every text has tokens, or a first refusal.
use Rattle.std.proofs.Common.{◌≡◌, ℕ, zero, suc, ◌+◌, ◌≤◌, ◌<◌, Bool, true, false, List, [], ◌∷◌, length, take, drop, Option, Some, None, Result, Ok, Err, ◌⊎◌, inl, inr, refl, arith}
use Rattle.std.proofs.lemmas.List.{length-drop}
use Rattle.sql_lexer.specs.declared.kind.Kind.{Kind}
use Rattle.sql_lexer.specs.declared.token.Content.{Content}
use Rattle.sql_lexer.specs.declared.token.Token.{Token}
use Rattle.sql_lexer.specs.declared.fault.LexRefusal.{LexRefusal}
use Rattle.sql_lexer.specs.declared.fault.LexRefusal.TheVariants.{BadByte}
use Rattle.sql_lexer.specs.declared.front.Form.{Form}
use Rattle.sql_lexer.specs.Forms.{IsLongest, made}
use Rattle.sql_lexer.specs.Fronts.{front_of}
use Rattle.sql_lexer.specs.Lexing.{Lexes, done, gap, token, Refuses, here, within, after_number, after_gap, after_token, gap_len, glued, refusal_at, HasAnswer}
use Rattle.sql_lexer.proofs.Fronts.{Finds, finds, positive}

-- the token at the front, and what comes of the bytes after it
module _ (at b : ℕ) (bs : List ℕ) (no_gap : gap_len (b ∷ bs) ≡ 0) (f : Form) (n : ℕ) (longest : IsLongest f n (b ∷ bs)) where
  with_rest : (kind : Kind) (content : Content) → made f (take n (b ∷ bs)) ≡ Ok (kind, content) → glued f (drop n (b ∷ bs)) ≡ false → HasAnswer (at + n) (drop n (b ∷ bs)) → HasAnswer at (b ∷ bs)
  with_rest kind content e free (inl x) = inl (record { kind = kind; content = content; start = at; len = n } ∷ x.0, token f n kind content no_gap longest e free x.1)
  with_rest kind content e free (inr x) = inr (x.0, x.1, after_token f n kind content no_gap longest e free x.2)

  by_letter : (kind : Kind) (content : Content) → made f (take n (b ∷ bs)) ≡ Ok (kind, content) → HasAnswer (at + n) (drop n (b ∷ bs)) → (g : Bool) → glued f (drop n (b ∷ bs)) ≡ g → HasAnswer at (b ∷ bs)
  by_letter kind content e rest true g = inr (BadByte, at + n, after_number f n kind content no_gap longest e g)
  by_letter kind content e rest false g = with_rest kind content e g rest

  by_made : HasAnswer (at + n) (drop n (b ∷ bs)) → (o : Result (Kind × Content) (LexRefusal × ℕ)) → made f (take n (b ∷ bs)) ≡ o → HasAnswer at (b ∷ bs)
  by_made rest (Ok (kind, content)) e = by_letter kind content e rest (glued f (drop n (b ∷ bs))) refl
  by_made rest (Err (r, k)) e = inr (r, at + k, within f n r k no_gap longest e)

module _ (fuel : ℕ) (more : (at : ℕ) (bytes : List ℕ) → length bytes ≤ fuel → HasAnswer at bytes) (at b : ℕ) (bs : List ℕ) (le : length bs ≤ fuel) where
  shorter : (n : ℕ) → 0 < n → length (drop n (b ∷ bs)) ≤ fuel
  shorter n lt = omega (arith, le, length-drop n (b ∷ bs))

  by_front : gap_len (b ∷ bs) ≡ 0 → (o : Option (Form × ℕ)) → Finds (b ∷ bs) o → HasAnswer at (b ∷ bs)
  by_front no_gap None h = inr (refusal_at b, at, here no_gap h.1)
  by_front no_gap (Some (f, n)) h = by_made at b bs no_gap f n h.0 (more (at + n) (drop n (b ∷ bs)) (shorter n (positive f n (b ∷ bs) h.0.front))) (made f (take n (b ∷ bs))) refl

  with_gap : 0 < gap_len (b ∷ bs) → HasAnswer (at + gap_len (b ∷ bs)) (drop (gap_len (b ∷ bs)) (b ∷ bs)) → HasAnswer at (b ∷ bs)
  with_gap lt (inl x) = inl (x.0, gap lt x.1)
  with_gap lt (inr x) = inr (x.0, x.1, after_gap lt x.2)

  by_gap : (n : ℕ) → gap_len (b ∷ bs) ≡ n → HasAnswer at (b ∷ bs)
  by_gap zero e = by_front e (front_of (b ∷ bs)) (finds (b ∷ bs))
  by_gap (suc n) e =
      let some : 0 < gap_len (b ∷ bs) = omega (arith, e) in
      with_gap some (more (at + gap_len (b ∷ bs)) (drop (gap_len (b ∷ bs)) (b ∷ bs)) (shorter (gap_len (b ∷ bs)) some))

answered_within : (fuel at : ℕ) (bytes : List ℕ) → length bytes ≤ fuel → HasAnswer at bytes
answered_within fuel at [] le = inl ([], done)
answered_within zero at (b ∷ bs) le = absurd (let no : ⊥ = omega (arith, le) in no)
answered_within (suc fuel) at (b ∷ bs) le = by_gap fuel (answered_within fuel) at b bs (omega (arith, le)) (gap_len (b ∷ bs)) refl

pub answered : (at : ℕ) (bytes : List ℕ) → HasAnswer at bytes
answered at bytes = answered_within (length bytes) at bytes (omega arith)
