-- A list or a chain, read by a loop.
use Rattle.std.proofs.Common.{◌≡◌, ℕ, zero, suc, ◌-◌, ◌<◌, Bool, true, false, List, [], ◌∷◌, ◌++◌, Ok, Err, refl, sym, ap, ◌∙◌, append_assoc, arith}
use Rattle.std.proofs.lemmas.List.{append-nil}
use Rattle.sql_grammar_laws.specs.declared.fault.SyntaxFault.{SyntaxFault}
use Rattle.sql_grammar_laws.specs.declared.fault.SyntaxError.{SyntaxError}
use Rattle.sql_grammar_laws.specs.declared.fault.SyntaxError.TheVariants as stops
use Rattle.sql_grammar_laws.specs.Readings.{Outcome, and_then, starts, crowded, links, Reads, is_err}
use Rattle.sql_grammar_laws.proofs.Stable.{out}

module _ {T : Type 0} where
  -- what was read before, and what is still read
  abbrev pub with_front : {B : Type 0} → List B → Outcome T (List B) → Outcome T (List B)
  with_front front o = and_then o (λ xs us. (Ok (front ++ xs), us))

  regroup : {B : Type 0} (front : List B) (b : B) (o : Outcome T (List B)) → with_front front (and_then o (λ xs us. out (Ok (b ∷ xs)) us)) ≡ with_front (front ++ b ∷ []) o
  regroup front b (Ok xs, us) = ap (λ (ys : List _). out (Ok ys) us) (simp append_assoc)
  regroup front b (Err r, us) = refl

  pub no_front : {B : Type 0} (o : Outcome T (List B)) → with_front [] o ≡ o
  no_front (Ok xs, us) = refl
  no_front (Err r, us) = refl

  module _ {A B D : Type 0} (test : T → Bool) (join : List T → Outcome T D) (link : D → A → B) (p : List T → Outcome T A) (total : Outcome T (List B)) (front : List B) (room : ℕ) (ts : List T)
      (so_far : with_front front (links test join link p room ts) ≡ total) where
    pub loop_ends : starts test ts ≡ false → total ≡ out (Ok front) ts
    unfolding links
    loop_ends none = by room so_far
      where
        by : (n : ℕ) → with_front front (links test join link p n ts) ≡ total → total ≡ out (Ok front) ts
        by zero e = sym e ∙ rw none (ap (λ (x : List B). out (Ok x) ts) (append-nil front))
        by (suc n) e = sym e ∙ rw none (ap (λ (x : List B). out (Ok x) ts) (append-nil front))

    pub loop_joins : starts test ts ≡ true → (r : SyntaxFault) (us : List T) → join ts ≡ out (Err r) us → total ≡ out (Err r) us
    unfolding links
    loop_joins some r us h = by room so_far
      where
        by : (n : ℕ) → with_front front (links test join link p n ts) ≡ total → total ≡ out (Err r) us
        by zero e = sym e ∙ rw (some, h) refl
        by (suc n) e = sym e ∙ rw (some, h) refl

    pub loop_goes_on : starts test ts ≡ true → 0 < room → (j : D) (us : List T) → join ts ≡ out (Ok j) us → (a : A) (vs : List T) → p us ≡ out (Ok a) vs
        → with_front (front ++ link j a ∷ []) (links test join link p (room - 1) vs) ≡ total
    unfolding links
    loop_goes_on some lt j us h a vs g = by room (room - 1) (omega arith) so_far
      where
        by : (n m : ℕ) → n ≡ suc m → with_front front (links test join link p n ts) ≡ total → with_front (front ++ link j a ∷ []) (links test join link p m vs) ≡ total
        by n m e f =
            let whole : with_front front (links test join link p (suc m) ts) ≡ with_front (front ++ link j a ∷ []) (links test join link p m vs) = rw (some, h, g) (regroup front (link j a) (links test join link p m vs)) in
            sym whole ∙ ap (λ (x : ℕ). with_front front (links test join link p x ts)) (sym e) ∙ f

    pub loop_fails : starts test ts ≡ true → 0 < room → (j : D) (us : List T) → join ts ≡ out (Ok j) us → (r : SyntaxFault) (vs : List T) → p us ≡ out (Err r) vs → total ≡ out (Err r) vs
    unfolding links
    loop_fails some lt j us h r vs g = by room (room - 1) (omega arith) so_far
      where
        by : (n m : ℕ) → n ≡ suc m → with_front front (links test join link p n ts) ≡ total → total ≡ out (Err r) vs
        by n m e f =
            let whole : with_front front (links test join link p (suc m) ts) ≡ out (Err r) vs = rw (some, h, g) refl in
            sym (ap (λ (x : ℕ). with_front front (links test join link p x ts)) (sym e) ∙ f) ∙ whole

    pub loop_is_full : starts test ts ≡ true → room ≡ 0 → (j : D) (us : List T) → join ts ≡ out (Ok j) us → (r : SyntaxFault) (vs : List T) → crowded us (p us) ≡ out (Err r) vs → total ≡ out (Err r) vs
    unfolding links
    loop_is_full some full j us h r vs g =
        let whole : with_front front (links test join link p 0 ts) ≡ out (Err r) vs = rw (some, h, g) refl in
        sym (ap (λ (x : ℕ). with_front front (links test join link p x ts)) (sym full) ∙ so_far) ∙ whole

    pub joins_reads : starts test ts ≡ true → (e : SyntaxError) (us : List T) → Reads (join ts) (is_err {A = D} e) us → Reads total (is_err {A = List B} e) us
    joins_reads some stops.OutOfMemory us g = tt
    joins_reads some (stops.Refused r) us g = loop_joins some r us g

    -- the same, of what a function returned
    pub full_reads : starts test ts ≡ true → room ≡ 0 → (j : D) (us : List T) → join ts ≡ out (Ok j) us → (e : SyntaxError) (vs : List T) → Reads (crowded us (p us)) (is_err {A = A} e) vs → Reads total (is_err {A = List B} e) vs
    full_reads some full j us h stops.OutOfMemory vs g = tt
    full_reads some full j us h (stops.Refused r) vs g = loop_is_full some full j us h r vs g

    pub fails_reads : starts test ts ≡ true → 0 < room → (j : D) (us : List T) → join ts ≡ out (Ok j) us → (e : SyntaxError) (vs : List T) → Reads (p us) (is_err {A = A} e) vs → Reads total (is_err {A = List B} e) vs
    fails_reads some lt j us h stops.OutOfMemory vs g = tt
    fails_reads some lt j us h (stops.Refused r) vs g = loop_fails some lt j us h r vs g
