-- What is read, up to a token, depends on the tokens up to this one alone.
use Rattle.std.proofs.Common.{◌≡◌, ℕ, zero, suc, Bool, true, false, cond, eqb, List, [], ◌∷◌, ◌++◌, length, ◌⊎◌, Result, Ok, Err, refl, sym, ap, subst, ◌∙◌, append_assoc, arith, inl, inr}
use Rattle.std.proofs.lemmas.List.{length-append, append_cancel_right}
use Rattle.std.proofs.lemmas.Bool.{eqb-true}
use Rattle.std.proofs.lemmas.Bool.Decides.{nat_tests}
use Rattle.sql_grammar_laws.specs.declared.fault.SyntaxFault.{SyntaxFault}
use Rattle.sql_grammar_laws.specs.declared.fault.SyntaxFault.TheVariants.{Unexpected, TooDeep, TooWide}
use Rattle.sql_grammar_laws.specs.Marks.{Mark, tokens}
use Rattle.sql_grammar_laws.specs.Readings.{Outcome, and_then, starts, one, opens, both, mapped, either, crowded, crowd, links}
use Rattle.sql_grammar_laws.specs.Laws.{Meets, Sound, Stable}

module _ {T : Type 0} where
  abbrev pub out : {A : Type 0} → Result A SyntaxFault → List T → Outcome T A
  out r ts = (r, ts)

  pub ends_of : {A : Type 0} {G : List (Mark T) → A → Type 0} {p : List T → Outcome T A} → Sound G p → (ts : List T) (r : Result A SyntaxFault) (us : List T) → p ts ≡ (r, us) → (front : List T) × (ts ≡ front ++ us)
  ends_of {A} {G} {p} s ts r us e = by r us (subst (Meets G ts) e (s.at ts))
    where
      by : (r : Result A SyntaxFault) (us : List T) → Meets G ts (r, us) → (front : List T) × (ts ≡ front ++ us)
      by (Ok a) us m = (tokens m.marks, m.text)
      by (Err r) us m = (m.front, m.text)

  no_front : (front us : List T) → front ++ us ≡ us → front ≡ []
  no_front [] us e = refl
  no_front (x ∷ front) us e = absurd (omega (arith, ap length e, length-append front us))

  longer : (x : T) (us : List T) → us ≡ x ∷ us → ⊥
  longer x us e = omega (arith, ap length e)

  longer_by : (y x : T) (front us : List T) → y ∷ (front ++ x ∷ us) ≡ x ∷ us → ⊥
  longer_by y x front us e = omega (arith, ap length e, length-append front (x ∷ us))

  rest_of : {A : Type 0} {r s : Result A SyntaxFault} {ts us : List T} → out r ts ≡ out s us → ts ≡ us
  rest_of {A} e = ap (λ (p : Outcome T A). p.1) e

  got : {A : Type 0} {r s : Result A SyntaxFault} {ts us : List T} → out r ts ≡ out s us → r ≡ s
  got {A} e = ap (λ (p : Outcome T A). p.0) e

  pub Stable-one : (test : T → Bool) → Stable (one test)
  Stable-one test = record { ends = ends; same = same }
    where
      ends_by : (t : T) (ts : List T) (b : Bool) (r : Result T SyntaxFault) (us : List T) → cond b (out (Ok t) (ts)) (out (Err Unexpected) (t ∷ ts)) ≡ (r, us) → (front : List T) × (t ∷ ts ≡ front ++ us)
      ends_by t ts true r us e = (t ∷ [], ap (λ (x : List T). t ∷ x) (rest_of e))
      ends_by t ts false r us e = ([], rest_of e)

      ends : (ts : List T) (r : Result T SyntaxFault) (us : List T) → one test ts ≡ (r, us) → (front : List T) × (ts ≡ front ++ us)
      ends [] r us e = ([], rest_of e)
      ends (t ∷ ts) r us e = ends_by t ts (test t) r us e

      at_first : (x : T) (u v : List T) (b : Bool) (r : Result T SyntaxFault) → cond b (out (Ok x) (u)) (out (Err Unexpected) (x ∷ u)) ≡ (r, x ∷ u) → cond b (out (Ok x) (v)) (out (Err Unexpected) (x ∷ v)) ≡ (r, x ∷ v)
      at_first x u v true r e = absurd (longer x u (rest_of e))
      at_first x u v false r e = ap (λ (y : Result T SyntaxFault). (y, x ∷ v)) (got e)

      at_later : (y : T) (front : List T) (x : T) (u v : List T) (b : Bool) (r : Result T SyntaxFault) → cond b (out (Ok y) (front ++ x ∷ u)) (out (Err Unexpected) (y ∷ (front ++ x ∷ u))) ≡ (r, x ∷ u) → cond b (out (Ok y) (front ++ x ∷ v)) (out (Err Unexpected) (y ∷ (front ++ x ∷ v))) ≡ (r, x ∷ v)
      at_later y front x u v true r e = rw (no_front front (x ∷ u) (rest_of e)) (ap (λ (z : Result T SyntaxFault). (z, x ∷ v)) (got e))
      at_later y front x u v false r e = absurd (longer_by y x front u (rest_of e))

      same : (front : List T) (x : T) (u v : List T) (r : Result T SyntaxFault) → one test (front ++ x ∷ u) ≡ (r, x ∷ u) → one test (front ++ x ∷ v) ≡ (r, x ∷ v)
      same [] x u v r e = at_first x u v (test x) r e
      same (y ∷ front) x u v r e = at_later y front x u v (test y) r e

  -- A reading that a full room changes at one token alone: opens is one where there is room, and refuses otherwise.
  pub Stable-opens : (room : ℕ) (test : T → Bool) → Stable (opens room test)
  Stable-opens (suc room) test = record { ends = ends; same = same }
    where
      s : Stable (one test)
      s = Stable-one test

      is_one : (ts : List T) → opens (suc room) test ts ≡ one test ts
      is_one [] = refl
      is_one (t ∷ ts) = refl

      ends : (ts : List T) (r : Result T SyntaxFault) (us : List T) → opens (suc room) test ts ≡ (r, us) → (front : List T) × (ts ≡ front ++ us)
      ends ts r us e = s.ends ts r us (sym (is_one ts) ∙ e)

      same : (front : List T) (x : T) (u v : List T) (r : Result T SyntaxFault) → opens (suc room) test (front ++ x ∷ u) ≡ (r, x ∷ u) → opens (suc room) test (front ++ x ∷ v) ≡ (r, x ∷ v)
      same front x u v r e = is_one (front ++ x ∷ v) ∙ s.same front x u v r (sym (is_one (front ++ x ∷ u)) ∙ e)
  Stable-opens zero test = record { ends = ends; same = same }
    where
      ends_by : (t : T) (ts : List T) (b : Bool) (r : Result T SyntaxFault) (us : List T) → cond b (out (Err TooDeep) (t ∷ ts)) (out (Err Unexpected) (t ∷ ts)) ≡ (r, us) → (front : List T) × (t ∷ ts ≡ front ++ us)
      ends_by t ts true r us e = ([], rest_of e)
      ends_by t ts false r us e = ([], rest_of e)

      ends : (ts : List T) (r : Result T SyntaxFault) (us : List T) → opens 0 test ts ≡ (r, us) → (front : List T) × (ts ≡ front ++ us)
      ends [] r us e = ([], rest_of e)
      ends (t ∷ ts) r us e = ends_by t ts (test t) r us e

      at_first : (x : T) (u v : List T) (b : Bool) (r : Result T SyntaxFault) → cond b (out (Err TooDeep) (x ∷ u)) (out (Err Unexpected) (x ∷ u)) ≡ (r, x ∷ u) → cond b (out (Err TooDeep) (x ∷ v)) (out (Err Unexpected) (x ∷ v)) ≡ (r, x ∷ v)
      at_first x u v true r e = ap (λ (y : Result T SyntaxFault). (y, x ∷ v)) (got e)
      at_first x u v false r e = ap (λ (y : Result T SyntaxFault). (y, x ∷ v)) (got e)

      at_later : (y : T) (front : List T) (x : T) (u v : List T) (b : Bool) (r : Result T SyntaxFault) → cond b (out (Err TooDeep) (y ∷ (front ++ x ∷ u))) (out (Err Unexpected) (y ∷ (front ++ x ∷ u))) ≡ (r, x ∷ u) → cond b (out (Err TooDeep) (y ∷ (front ++ x ∷ v))) (out (Err Unexpected) (y ∷ (front ++ x ∷ v))) ≡ (r, x ∷ v)
      at_later y front x u v true r e = absurd (longer_by y x front u (rest_of e))
      at_later y front x u v false r e = absurd (longer_by y x front u (rest_of e))

      same : (front : List T) (x : T) (u v : List T) (r : Result T SyntaxFault) → opens 0 test (front ++ x ∷ u) ≡ (r, x ∷ u) → opens 0 test (front ++ x ∷ v) ≡ (r, x ∷ v)
      same [] x u v r e = at_first x u v (test x) r e
      same (y ∷ front) x u v r e = at_later y front x u v (test y) r e

  pub Stable-fixed : {A : Type 0} (r : Result A SyntaxFault) → Stable (λ ts. out r ts)
  Stable-fixed {A} r = record { ends = λ ts s us e. ([], rest_of e); same = same }
    where
      same : (front : List T) (x : T) (u v : List T) (s : Result A SyntaxFault) → out r (front ++ x ∷ u) ≡ (s, x ∷ u) → out r (front ++ x ∷ v) ≡ (s, x ∷ v)
      same front x u v s e = rw (no_front front (x ∷ u) (rest_of e)) (ap (λ (y : Result A SyntaxFault). out y (x ∷ v)) (got e))

  pub Stable-either : {A : Type 0} {p q : List T → Outcome T A} (test : T → Bool) → Stable p → Stable q → Stable (either test p q)
  Stable-either {A} {p} {q} test s t = record { ends = λ ts. ends ts (starts test ts); same = λ front x u v r. same front x u v r }
    where
      ends : (ts : List T) (b : Bool) (r : Result A SyntaxFault) (us : List T) → cond b (p ts) (q ts) ≡ (r, us) → (front : List T) × (ts ≡ front ++ us)
      ends ts true = s.ends ts
      ends ts false = t.ends ts

      by : (front : List T) (x : T) (u v : List T) (r : Result A SyntaxFault) (b : Bool) → cond b (p (front ++ x ∷ u)) (q (front ++ x ∷ u)) ≡ (r, x ∷ u) → cond b (p (front ++ x ∷ v)) (q (front ++ x ∷ v)) ≡ (r, x ∷ v)
      by front x u v r true e = s.same front x u v r e
      by front x u v r false e = t.same front x u v r e

      same : (front : List T) (x : T) (u v : List T) (r : Result A SyntaxFault) → either test p q (front ++ x ∷ u) ≡ (r, x ∷ u) → either test p q (front ++ x ∷ v) ≡ (r, x ∷ v)
      same [] x u v r e = by [] x u v r (test x) e
      same (y ∷ front) x u v r e = by (y ∷ front) x u v r (test y) e

  -- the outcome of a reading, and that it is this one
  record Seen {A : Type 0} (o : Outcome T A) : Type 0 where
    result : Result A SyntaxFault
    rest : List T
    is : o ≡ out result rest

  see : {A : Type 0} (o : Outcome T A) → Seen o
  see (r, ts) = record { result = r; rest = ts; is = refl }

  -- one after the other, where the second may depend on what the first gave
  pub Stable-then : {A B : Type 0} {p : List T → Outcome T A} {q : A → List T → Outcome T B} → Stable p → ((a : A) → Stable (q a)) → Stable (λ ts. and_then (p ts) q)
  Stable-then {A} {B} {p} {q} s t = record { ends = λ ts r us e. ends ts (see (p ts)) r us e; same = λ front x u v r e. same front x u v r (see (p (front ++ x ∷ u))) e }
    where
      ends_by : (ts : List T) (o : Result A SyntaxFault) (ws : List T) → p ts ≡ out o ws → (r : Result B SyntaxFault) (us : List T) → and_then (out o ws) q ≡ (r, us) → (front : List T) × (ts ≡ front ++ us)
      ends_by ts (Ok a) ws is r us e =
          let f = s.ends ts (Ok a) ws is in
          let g = (t a).ends ws r us e in
          (f.0 ++ g.0, f.1 ∙ ap (λ (x : List T). f.0 ++ x) g.1 ∙ sym (append_assoc f.0 g.0 us))
      ends_by ts (Err k) ws is r us e =
          let f = s.ends ts (Err k) ws is in
          (f.0, f.1 ∙ ap (λ (x : List T). f.0 ++ x) (rest_of {A = B} {r = Err k} {s = r} e))

      ends : (ts : List T) → Seen (p ts) → (r : Result B SyntaxFault) (us : List T) → and_then (p ts) q ≡ (r, us) → (front : List T) × (ts ≡ front ++ us)
      ends ts o r us e = ends_by ts o.result o.rest o.is r us (ap (λ (y : Outcome T A). and_then y q) (sym o.is) ∙ e)

      -- the first ends at the token or before it
      first : (f g : List T) (x : T) (u v : List T) (a : A) → p (f ++ (g ++ x ∷ u)) ≡ out (Ok a) (g ++ x ∷ u) → p (f ++ (g ++ x ∷ v)) ≡ out (Ok a) (g ++ x ∷ v)
      first f [] x u v a e = s.same f x u v (Ok a) e
      first f (y ∷ g) x u v a e = s.same f y (g ++ x ∷ u) (g ++ x ∷ v) (Ok a) e

      same_by : (front : List T) (x : T) (u v : List T) (r : Result B SyntaxFault) (o : Result A SyntaxFault) (ws : List T) → p (front ++ x ∷ u) ≡ out o ws → and_then (out o ws) q ≡ (r, x ∷ u) → and_then (p (front ++ x ∷ v)) q ≡ (r, x ∷ v)
      same_by front x u v r (Ok a) ws is e =
          let f = s.ends (front ++ x ∷ u) (Ok a) ws is in
          let g = (t a).ends ws r (x ∷ u) e in
          let fg : front ≡ f.0 ++ g.0 = append_cancel_right front (f.0 ++ g.0) (x ∷ u) (f.1 ∙ ap (λ (y : List T). f.0 ++ y) g.1 ∙ sym (append_assoc f.0 g.0 (x ∷ u))) in
          let split : (w : List T) → front ++ w ≡ f.0 ++ (g.0 ++ w) = λ w. ap (λ (y : List T). y ++ w) fg ∙ append_assoc f.0 g.0 w in
          let was : p (f.0 ++ (g.0 ++ x ∷ u)) ≡ out (Ok a) (g.0 ++ x ∷ u) = ap p (sym (split (x ∷ u))) ∙ is ∙ ap (out (Ok a)) g.1 in
          let now : p (front ++ x ∷ v) ≡ out (Ok a) (g.0 ++ x ∷ v) = ap p (split (x ∷ v)) ∙ first f.0 g.0 x u v a was in
          ap (λ (y : Outcome T A). and_then y q) now ∙ (t a).same g.0 x u v r (ap (q a) (sym g.1) ∙ e)
      same_by front x u v r (Err k) ws is e =
          let at : p (front ++ x ∷ v) ≡ out (Err k) (x ∷ v) = s.same front x u v (Err k) (is ∙ ap (out (Err k)) (rest_of {A = B} {r = Err k} {s = r} e)) in
          ap (λ (y : Outcome T A). and_then y q) at ∙ ap (λ (y : Result B SyntaxFault). out y (x ∷ v)) (got {A = B} {r = Err k} {s = r} e)

      same : (front : List T) (x : T) (u v : List T) (r : Result B SyntaxFault) → Seen (p (front ++ x ∷ u)) → and_then (p (front ++ x ∷ u)) q ≡ (r, x ∷ u) → and_then (p (front ++ x ∷ v)) q ≡ (r, x ∷ v)
      same front x u v r o e = same_by front x u v r o.result o.rest o.is (ap (λ (y : Outcome T A). and_then y q) (sym o.is) ∙ e)

  pub Stable-mapped : {A B : Type 0} {p : List T → Outcome T A} (f : A → B) → Stable p → Stable (mapped f p)
  Stable-mapped f s = Stable-then s (λ a. Stable-fixed (Ok (f a)))

  pub Stable-both : {A B C : Type 0} {p : List T → Outcome T A} {q : List T → Outcome T B} (f : A → B → C) → Stable p → Stable q → Stable (both f p q)
  Stable-both f s t = Stable-then s (λ a. Stable-then t (λ b. Stable-fixed (Ok (f a b))))

  -- ---- an element that is one too many

  same_len : (front us : List T) → length us ≡ length (front ++ us) → us ≡ front ++ us
  same_len [] us e = refl
  same_len (x ∷ front) us e = absurd (omega (arith, e, length-append front us))

  module _ {A : Type 0} (p : List T → Outcome T A) (s : Stable p) where
    -- either it is refused at its first token, or as one too many
    crowd_kinds : (ts : List T) (o : Result A SyntaxFault) (us : List T) → p ts ≡ out o us
        → ((k : SyntaxFault) × (p ts ≡ out (Err k) ts) × (crowd p ts ≡ out (Err k) ts)) ⊎ (((k : SyntaxFault) → p ts ≡ out (Err k) ts → ⊥) × (crowd p ts ≡ out (Err TooWide) ts))
    crowd_kinds ts (Ok a) us e = inr ((λ k h. no_both k (sym e ∙ h)), ap (crowded ts) e)
      where
        no_both : (k : SyntaxFault) → out (Ok a) us ≡ out (Err k) ts → ⊥
        no_both k h = let g = got {A = A} {r = Ok a} {s = Err k} h in cc
    crowd_kinds ts (Err k) us e = by (eqb (length us) (length ts)) refl
      where
        by : (b : Bool) → eqb (length us) (length ts) ≡ b → ((k : SyntaxFault) × (p ts ≡ out (Err k) ts) × (crowd p ts ≡ out (Err k) ts)) ⊎ (((k : SyntaxFault) → p ts ≡ out (Err k) ts → ⊥) × (crowd p ts ≡ out (Err TooWide) ts))
        by true h =
            let f = s.ends ts (Err k) us e in
            let whole : us ≡ ts = same_len f.0 us (eqb-true _ _ h ∙ ap length f.1) ∙ sym f.1 in
            inl (k, e ∙ ap (out (Err k)) whole, ap (crowded ts) e ∙ ap (λ (b : Bool). cond b (out (Err k) ts) (out (Err TooWide) ts)) h)
        by false h =
            inr ((λ j g. differ (rest_of {A = A} {r = Err k} {s = Err j} (sym e ∙ g))), ap (crowded ts) e ∙ ap (λ (b : Bool). cond b (out (Err k) ts) (out (Err TooWide) ts)) h)
          where
            differ : us ≡ ts → ⊥
            differ same = let len : length us ≡ length ts = ap length same in grind (arith, nat_tests)

    crowd_out : (ts : List T) → Seen (p ts) → ((k : SyntaxFault) × (p ts ≡ out (Err k) ts) × (crowd p ts ≡ out (Err k) ts)) ⊎ (((k : SyntaxFault) → p ts ≡ out (Err k) ts → ⊥) × (crowd p ts ≡ out (Err TooWide) ts))
    crowd_out ts o = crowd_kinds ts o.result o.rest o.is

    crowd_same : (x : T) (u v : List T) (r : Result A SyntaxFault) → crowd p (x ∷ u) ≡ (r, x ∷ u) → crowd p (x ∷ v) ≡ (r, x ∷ v)
    crowd_same x u v r e =
        elim (crowd_out (x ∷ u) (see (p (x ∷ u)))) [
          | inl old ↦ elim (crowd_out (x ∷ v) (see (p (x ∷ v)))) [
            | inl new ↦
                let now : p (x ∷ v) ≡ out (Err old.0) (x ∷ v) = s.same [] x u v (Err old.0) old.1 in
                let k : Err new.0 ≡ Err old.0 = got {A = A} {r = Err new.0} {s = Err old.0} (sym new.1 ∙ now) in
                let j : Err old.0 ≡ r = got {A = A} {r = Err old.0} {s = r} (sym old.2 ∙ e) in
                new.2 ∙ ap (λ (y : Result A SyntaxFault). out y (x ∷ v)) (k ∙ j)
            | inr new ↦ absurd (new.0 old.0 (s.same [] x u v (Err old.0) old.1))
          ]
          | inr old ↦ elim (crowd_out (x ∷ v) (see (p (x ∷ v)))) [
            | inl new ↦ absurd (old.0 new.0 (s.same [] x v u (Err new.0) new.1))
            | inr new ↦ new.1 ∙ ap (λ (y : Result A SyntaxFault). out y (x ∷ v)) (got {A = A} {r = Err TooWide} {s = r} (sym old.1 ∙ e))
          ]
        ]

    crowd_rest : (ts : List T) (r : Result A SyntaxFault) (us : List T) → crowd p ts ≡ (r, us) → ts ≡ us
    crowd_rest ts r us e =
        elim (crowd_out ts (see (p ts))) [
          | inl old ↦ rest_of {A = A} {r = Err old.0} {s = r} (sym old.2 ∙ e)
          | inr old ↦ rest_of {A = A} {r = Err TooWide} {s = r} (sym old.1 ∙ e)
        ]

    crowd_at : (front : List T) (x : T) (u v : List T) (r : Result A SyntaxFault) → front ≡ [] → crowd p (front ++ x ∷ u) ≡ (r, x ∷ u) → crowd p (front ++ x ∷ v) ≡ (r, x ∷ v)
    crowd_at [] x u v r n e = crowd_same x u v r e
    crowd_at (y ∷ front) x u v r n e = absurd cc

    pub Stable-crowd : Stable (crowd p)
    Stable-crowd = record {
      ends = λ ts r us e. ([], crowd_rest ts r us e);
      same = λ front x u v r e. crowd_at front x u v r (no_front front (x ∷ u) (crowd_rest (front ++ x ∷ u) r (x ∷ u) e)) e;
    }

  pub Stable-links : {A B D : Type 0} (test : T → Bool) (join : List T → Outcome T D) (link : D → A → B) (p : List T → Outcome T A) → Stable join → Stable p → (room : ℕ) → Stable (links test join link p room)
  unfolding links
  Stable-links test join link p sj s zero =
      Stable-either test (Stable-both (λ b bs. b ∷ bs) (Stable-both link sj (Stable-crowd p s)) (Stable-fixed (Ok []))) (Stable-fixed (Ok []))
  Stable-links test join link p sj s (suc room) =
      Stable-either test (Stable-both (λ b bs. b ∷ bs) (Stable-both link sj s) (Stable-links test join link p sj s room)) (Stable-fixed (Ok []))
