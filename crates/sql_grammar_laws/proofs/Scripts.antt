-- A script's statements, one after the other.
use Rattle.std.proofs.Common.{◌≡◌, ℕ, zero, suc, ◌+◌, ◌<◌, ◌≤◌, List, [], ◌∷◌, ◌++◌, length, Result, Ok, Err, refl, sym, ap, subst, ◌∙◌, append_assoc, arith}
use Rattle.std.proofs.lemmas.List.{length-append, append-nil}
use Rattle.sql_grammar_laws.specs.declared.fault.SyntaxFault.{SyntaxFault}
use Rattle.sql_grammar_laws.specs.declared.fault.SyntaxError.{SyntaxError}
use Rattle.sql_grammar_laws.specs.declared.fault.SyntaxError.TheVariants as stops
use Rattle.sql_grammar_laws.specs.Marks.{Mark, tokens}
use Rattle.sql_grammar_laws.specs.Lines.{Then}
use Rattle.sql_grammar_laws.specs.Readings.{Outcome, and_then, both, Reads, is_err}
use Rattle.sql_grammar_laws.specs.Scripts.{Script, statements}
use Rattle.sql_grammar_laws.specs.Laws.{Takes, Meets, Sound, Stable, verdict, Complete, IsReadBy}
use Rattle.sql_grammar_laws.proofs.Sound.{tokens-append, Sound-wider, Sound-both}
use Rattle.sql_grammar_laws.proofs.Stable.{out, Stable-both, Stable-fixed}
use Rattle.sql_grammar_laws.proofs.Complete.{Complete-both}

append_one : {A : Type 0} (xs : List A) (x : A) (ys : List A) → xs ++ x ∷ ys ≡ (xs ++ x ∷ []) ++ ys
append_one xs x ys = simp append_assoc

module _ {T S : Type 0} (G : ℕ → List (Mark T) → S → Type 0) (read : List T → Outcome T S) (law : IsReadBy G read) where
  abbrev one_more : ℕ → List T → Outcome T (List S)
  one_more n = both (λ s ss. s ∷ ss) read (statements read n)

  Script-in : (h : ℕ) (ms : List (Mark T)) (ss : List S) → Then (λ s ss. s ∷ ss) (G h) (λ ns ss. Script G h ss ns) ms ss → Script G h ss ms
  Script-in h ms ss t =
      let made : Script G h (t.a ∷ t.b) ms = record { front = t.front; back = t.back; a = t.a; b = tt; first = t.first; second = t.second; text = t.text; value = refl } in
      subst (λ (x : List S). Script G h x ms) (sym t.value) made

  more_sound : (n : ℕ) → Sound (λ ms ss. Script G law.height ss ms) (statements read n) → Sound (λ ms ss. Script G law.height ss ms) (one_more n)
  more_sound n s = Sound-wider (Script-in law.height) (Sound-both (λ s ss. s ∷ ss) law.sound s (record { marks = []; value = []; part = refl }))

  step_sound : (n : ℕ) → Sound (λ ms ss. Script G law.height ss ms) (one_more n) → (ts : List T) → Meets (λ ms ss. Script G law.height ss ms) ts (statements read (suc n) ts)
  unfolding statements
  step_sound n s [] = record { marks = []; part = refl; text = refl }
  step_sound n s (t ∷ ts) = s.at (t ∷ ts)

  pub Sound-script : (n : ℕ) → Sound (λ ms ss. Script G law.height ss ms) (statements read n)
  unfolding statements
  Sound-script zero = record { at = λ ts. record { marks = []; part = refl; text = refl } }
  Sound-script (suc n) = record { at = step_sound n (more_sound n (Sound-script n)) }

  step_stable : (n : ℕ) → Stable (one_more n) → Stable (statements read (suc n))
  unfolding statements
  step_stable n s = record { ends = ends; same = same }
    where
      ends : (ts : List T) (r : Result (List S) SyntaxFault) (us : List T) → statements read (suc n) ts ≡ (r, us) → (front : List T) × (ts ≡ front ++ us)
      ends [] r us e = ([], ap (λ (o : Outcome T (List S)). o.1) e)
      ends (t ∷ ts) r us e = s.ends (t ∷ ts) r us e

      same : (front : List T) (x : T) (u v : List T) (r : Result (List S) SyntaxFault) → statements read (suc n) (front ++ x ∷ u) ≡ (r, x ∷ u) → statements read (suc n) (front ++ x ∷ v) ≡ (r, x ∷ v)
      same [] x u v r e = s.same [] x u v r e
      same (y ∷ front) x u v r e = s.same (y ∷ front) x u v r e

  pub Stable-script : (n : ℕ) → Stable (statements read n)
  unfolding statements
  Stable-script zero = Stable-fixed (Ok [])
  Stable-script (suc n) = step_stable n (Stable-both (λ s ss. s ∷ ss) law.stable (Stable-script n))

  -- a script of at most n tokens
  pub record Short (h n : ℕ) (ms : List (Mark T)) (ss : List S) : Type 0 where
    pub script : Script G h ss ms
    pub length_le : length (tokens ms) ≤ n

  abbrev pub Nothing : List T → Type 0
  Nothing ts = ts ≡ []

  first_token : (h : ℕ) → (ms : List (Mark T)) (s : S) → G h ms s → (m : Mark T) × (ns : List (Mark T)) × (ms ≡ m ∷ ns)
  first_token h [] s g = absurd ((law.nonempty h).never s g)
  first_token h (m ∷ ms) s g = (m, ms, refl)

  short_more : (h n : ℕ) (ms : List (Mark T)) (s : S) (ss : List S) → Short h (suc n) ms (s ∷ ss) → Then (λ s ss. s ∷ ss) (G h) (Short h n) ms (s ∷ ss)
  short_more h n ms s ss g =
      let t = g.script in
      let first = (first_token h) t.front t.a t.first in
      let whole : length (tokens ms) ≡ length (tokens t.front) + length (tokens t.back) = ap (λ (x : List (Mark T)). length (tokens x)) t.text ∙ ap length (tokens-append t.front t.back) ∙ length-append (tokens t.front) (tokens t.back) in
      let front : length (tokens t.front) ≡ suc (length (tokens first.1)) = ap (λ (x : List (Mark T)). length (tokens x)) first.2 in
      record { front = t.front; back = t.back; a = t.a; b = ss; first = t.first; second = record { script = t.second; length_le = omega (arith, whole, front, g.length_le) }; text = t.text; value = ap (λ (x : S). x ∷ ss) t.value }

  some_token : (h : ℕ) (ms : List (Mark T)) (s : S) (ss : List S) → Script G h (s ∷ ss) ms → (m : Mark T) × (ns : List (Mark T)) × (ms ≡ m ∷ ns)
  some_token h ms s ss t = let first = (first_token h) t.front t.a t.first in (first.0, first.1 ++ t.back, t.text ∙ ap (λ (x : List (Mark T)). x ++ t.back) first.2)

  step_complete : (h n : ℕ) → Complete (Then (λ s ss. s ∷ ss) (G h) (Short h n)) (one_more n) Nothing → (ms : List (Mark T)) (ss : List S) (rest : List T) → Short h (suc n) ms ss → rest ≡ [] → statements read (suc n) (tokens ms ++ rest) ≡ verdict ms rest (out (Ok ss) rest)
  unfolding statements
  step_complete h n c ms [] rest g e = rw (g.script, e) refl
  step_complete h n c ms (s ∷ ss) rest g e =
      let m = some_token h ms s ss g.script in
      let same : statements read (suc n) (tokens ms ++ rest) ≡ one_more n (tokens ms ++ rest) = rw m.2 refl in
      same ∙ c.at ms (s ∷ ss) rest (short_more h n ms s ss g) e

  zero_complete : (h : ℕ) (ms : List (Mark T)) (ss : List S) (rest : List T) → Short h 0 ms ss → rest ≡ [] → statements read 0 (tokens ms ++ rest) ≡ verdict ms rest (out (Ok ss) rest)
  unfolding statements
  zero_complete h ms [] rest g e = rw (g.script, e) refl
  zero_complete h ms (s ∷ ss) rest g e =
      let m = some_token h ms s ss g.script in
      let len : length (tokens ms) ≡ suc (length (tokens m.1)) = ap (λ (x : List (Mark T)). length (tokens x)) m.2 in
      absurd (omega (arith, len, g.length_le))

  pub Complete-script : (h n : ℕ) → Complete (Short h n) (statements read n) Nothing
  Complete-script h zero = record { at = zero_complete h }
  Complete-script h (suc n) = record { at = step_complete h n (Complete-both (λ s ss. s ∷ ss) (law.complete h) (Complete-script h n) (λ ns b rest g e. tt)) }

  -- ---- the number of statements that there is room for doesn't matter, where it is the number of the tokens or more

  pub Ended-shorter : (ts us : List T) (s : S) → read ts ≡ out (Ok s) us → length us < length ts
  Ended-shorter ts us s e =
      let m : Takes (G law.height) ts s us = subst (Meets (G law.height) ts) e (law.sound.at ts) in
      let first = (first_token law.height) m.marks s m.part in
      let front : length (tokens m.marks) ≡ suc (length (tokens first.1)) = ap (λ (x : List (Mark T)). length (tokens x)) first.2 in
      omega (arith, ap length m.text, length-append (tokens m.marks) us, front)

  rest_alike : (n m : ℕ) (ts : List T) → ((us : List T) → length us < length ts → statements read n us ≡ statements read m us) → one_more n ts ≡ one_more m ts
  rest_alike n m ts ih = by (read ts) refl
    where
      by : (o : Outcome T S) → read ts ≡ o → and_then o (λ s us. and_then (statements read n us) (λ ss vs. out (Ok (s ∷ ss)) vs)) ≡ and_then o (λ s us. and_then (statements read m us) (λ ss vs. out (Ok (s ∷ ss)) vs))
      by (Ok s, us) e = ap (λ (x : Outcome T (List S)). and_then x (λ ss vs. out (Ok (s ∷ ss)) vs)) (ih us (Ended-shorter ts us s e))
      by (Err r, us) e = refl

  pub enough : (n m : ℕ) (ts : List T) → length ts ≤ n → length ts ≤ m → statements read n ts ≡ statements read m ts
  unfolding statements
  enough zero zero ts a b = refl
  enough zero (suc m) [] a b = refl
  enough zero (suc m) (t ∷ ts) a b = absurd (omega arith)
  enough (suc n) zero [] a b = refl
  enough (suc n) zero (t ∷ ts) a b = absurd (omega arith)
  enough (suc n) (suc m) [] a b = refl
  enough (suc n) (suc m) (t ∷ ts) a b = rest_alike n m (t ∷ ts) (λ us lt. enough n m us (omega arith) (omega arith))

  -- ---- statements, read by a loop

  abbrev pub with_statements : List S → Outcome T (List S) → Outcome T (List S)
  with_statements front o = and_then o (λ xs us. (Ok (front ++ xs), us))

  module _ (total : Outcome T (List S)) (found : List S) (ts : List T) (so_far : with_statements found (statements read (length ts) ts) ≡ total) where
    pub script_goes_on : (ts ≡ [] → ⊥) → (s : S) (us : List T) → read ts ≡ out (Ok s) us → with_statements (found ++ s ∷ []) (statements read (length us) us) ≡ total
    unfolding statements
    script_goes_on some s us e = by ts some so_far e
      where
        alike : (o : Outcome T (List S)) → with_statements (found ++ s ∷ []) o ≡ with_statements found (and_then o (λ ss vs. out (Ok (s ∷ ss)) vs))
        alike (Ok xs, vs) = ap (λ (x : List S). out (Ok x) vs) (sym (append_one found s xs))
        alike (Err r, vs) = refl

        by : (ts : List T) → (ts ≡ [] → ⊥) → with_statements found (statements read (length ts) ts) ≡ total → read ts ≡ out (Ok s) us → with_statements (found ++ s ∷ []) (statements read (length us) us) ≡ total
        by [] f g h = absurd (f refl)
        by (t ∷ ts) f g h = ap (with_statements (found ++ s ∷ [])) (enough (length us) (length ts) us (omega arith) (let lt = Ended-shorter (t ∷ ts) us s h in omega arith)) ∙ alike (statements read (length ts) us) ∙ sym (ap (λ (o : Outcome T S). with_statements found (and_then o (λ x vs. and_then (statements read (length ts) vs) (λ xs ws. out (Ok (x ∷ xs)) ws)))) h) ∙ g

    pub script_fails : (ts ≡ [] → ⊥) → (e : SyntaxError) (us : List T) → Reads (read ts) (is_err {A = S} e) us → Reads total (is_err {A = List S} e) us
    unfolding statements
    script_fails some stops.OutOfMemory us h = tt
    script_fails some (stops.Refused r) us h = by ts some so_far h
      where
        by : (ts : List T) → (ts ≡ [] → ⊥) → with_statements found (statements read (length ts) ts) ≡ total → read ts ≡ out (Err r) us → total ≡ out (Err r) us
        by [] f g h = absurd (f refl)
        by (t ∷ ts) f g h = sym g ∙ rw h refl

    pub script_ends : ts ≡ [] → total ≡ out (Ok found) ts
    unfolding statements
    script_ends e = by ts e so_far
      where
        by : (ts : List T) → ts ≡ [] → with_statements found (statements read (length ts) ts) ≡ total → total ≡ out (Ok found) ts
        by [] e g = sym g ∙ ap (λ (x : List S). out (Ok x) []) (append-nil found)
        by (t ∷ ts) e g = absurd cc
