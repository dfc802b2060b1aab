-- What is read is the script, or the first refusal.
use Rattle.std.proofs.Common.{◌≡◌, ℕ, zero, suc, ◌+◌, ◌-◌, ◌<◌, ◌≤◌, List, [], ◌∷◌, ◌++◌, length, take, drop, ◌⊎◌, Option, Some, None, Ok, Err, refl, sym, ap, subst, ◌∙◌, append_assoc, arith, inl, inr}
use Rattle.std.proofs.lemmas.List.{length-append, append-nil, take_at, take-append-drop}
use Rattle.sql_grammar_laws.specs.declared.fault.SyntaxFault.{SyntaxFault}
use Rattle.sql_grammar_laws.specs.declared.fault.SyntaxFault.TheVariants.{Unexpected, TooDeep, TooWide}
use Rattle.sql_grammar_laws.specs.Marks.{Mark, Limit, deep, wide, refusal_of, tokens}
use Rattle.sql_grammar_laws.specs.Readings.{Outcome, and_then}
use Rattle.sql_grammar_laws.specs.Scripts.{Script, Spells, IsScript, passes_at, CanBegin, IsUnexpected, Passes, Stands, rank, IsFirst, IsRead, statements}
use Rattle.sql_grammar_laws.specs.Laws.{Takes, Stops, Meets, IsThere, shown, passing, verdict, IsReadBy}
use Rattle.sql_grammar_laws.proofs.Stable.{out}
use Rattle.sql_grammar_laws.proofs.Scripts.{Sound-script, Stable-script, Complete-script, enough, Ended-shorter}

limit_not_unexpected : (l : Limit) → Unexpected ≡ refusal_of l → ⊥
limit_not_unexpected deep e = cc
limit_not_unexpected wide e = cc

refusal_is : (k l : Limit) → refusal_of k ≡ refusal_of l → k ≡ l
refusal_is deep deep e = refl
refusal_is deep wide e = absurd cc
refusal_is wide deep e = absurd cc
refusal_is wide wide e = refl

limit_rank : (l : Limit) → 5 ≤ rank (refusal_of l)
limit_rank deep = omega arith
limit_rank wide = omega arith

module _ {T S : Type 0} (G : ℕ → List (Mark T) → S → Type 0) (read : List T → Outcome T S) (law : IsReadBy G read) where
  -- all of a script is read, or it is refused where it first passes a limit
  pub reads_script : (h n : ℕ) (ms : List (Mark T)) (ss : (List S)) → Script G h ss ms → length (tokens ms) ≤ n → statements read n (tokens ms) ≡ verdict ms [] (out (Ok ss) [])
  reads_script h n ms ss g le = ap (statements read n) (sym (append-nil (tokens ms))) ∙ (Complete-script G read law h n).at ms ss [] (record { script = g; length_le = le }) refl

  -- the first limit that is passed
  record Broken (ms : List (Mark T)) (r : SyntaxFault) (us : List T) : Type 0 where
    limit : Limit
    front : List T
    x : T
    v : List T
    here : passes_at (length front) ms ≡ Some limit
    is : r ≡ refusal_of limit
    text : tokens ms ≡ front ++ x ∷ v
    rest : us ≡ x ∷ v

  broken : (ms : List (Mark T)) (ss : (List S)) (r : SyntaxFault) (us : List T) → verdict ms [] (out (Ok ss) []) ≡ out (Err r) us → Broken ms r us
  broken [] ss r us e = absurd (let no_ok : Ok ss ≡ Err r = ap (λ (o : Outcome T (List S)). o.0) e in cc)
  broken (m ∷ ms) ss r us e = by m.passes refl e (broken ms ss r us)
    where
      by : (p : Option Limit) → m.passes ≡ p → passing p (m.token ∷ (tokens ms ++ [])) (verdict ms [] (out (Ok ss) [])) ≡ out (Err r) us → (verdict ms [] (out (Ok ss) []) ≡ out (Err r) us → Broken ms r us) → Broken (m ∷ ms) r us
      by None is f ih =
          let b = ih f in
          record { limit = b.limit; front = m.token ∷ b.front; x = b.x; v = b.v; here = b.here; is = b.is; text = ap (λ (y : List T). m.token ∷ y) b.text; rest = b.rest }
      by (Some l) is f ih =
          let kind : Err (refusal_of l) ≡ Err r = ap (λ (o : Outcome T (List S)). o.0) f in
          let left : m.token ∷ (tokens ms ++ []) ≡ us = ap (λ (o : Outcome T (List S)). o.1) f in
          record { limit = l; front = []; x = m.token; v = tokens ms; here = is; is = cc; text = refl; rest = sym left ∙ ap (λ (y : List T). m.token ∷ y) (append-nil (tokens ms)) }

  -- a limit that is passed somewhere is refused there or before
  record Refused (ms : List (Mark T)) (ss : (List S)) (n : ℕ) (l : Limit) : Type 0 where
    kind : SyntaxFault
    front : List T
    x : T
    v : List T
    is : verdict ms [] (out (Ok ss) []) ≡ out (Err kind) (x ∷ v)
    text : tokens ms ≡ front ++ x ∷ v
    before : length front ≤ n
    same : length front ≡ n → kind ≡ refusal_of l

  refused : (n : ℕ) (ms : List (Mark T)) (ss : (List S)) (l : Limit) → passes_at n ms ≡ Some l → Refused ms ss n l
  refused zero [] ss l e = absurd cc
  refused (suc n) [] ss l e = absurd cc
  refused zero (m ∷ ms) ss l e =
      record { kind = refusal_of l; front = []; x = m.token; v = tokens ms; is = rw (e, append-nil (tokens ms)) refl; text = refl; before = omega arith; same = λ _. refl }
  refused (suc n) (m ∷ ms) ss l e = by m.passes refl (refused n ms ss l e)
    where
      by : (p : Option Limit) → m.passes ≡ p → Refused ms ss n l → Refused (m ∷ ms) ss (suc n) l
      by None is r = record { kind = r.kind; front = m.token ∷ r.front; x = r.x; v = r.v; is = rw is r.is; text = ap (λ (y : List T). m.token ∷ y) r.text; before = omega (arith, r.before); same = λ h. r.same (omega arith) }
      by (Some k) is r = record { kind = refusal_of k; front = []; x = m.token; v = tokens ms; is = rw (is, append-nil (tokens ms)) refl; text = refl; before = omega arith; same = λ h. absurd (omega arith) }

  -- a list that begins as another one does
  shared : (front : List T) (x : T) (u ts more : List T) (m : ℕ) → front ++ x ∷ u ≡ take (suc m) ts ++ more → length front ≤ m → m < length ts → (v : List T) × (ts ≡ front ++ x ∷ v)
  shared front x u [] more m e le lt = absurd (omega arith)
  shared [] x u (t ∷ ts) more m e le lt = (ts, (let same : x ≡ t = cc in ap (λ (y : T). y ∷ ts) (sym same)))
  shared (y ∷ front) x u (t ∷ ts) more zero e le lt = absurd (omega arith)
  shared (y ∷ front) x u (t ∷ ts) more (suc m) e le lt =
      let tails : front ++ x ∷ u ≡ take (suc m) ts ++ more = cc in
      let head : y ≡ t = cc in
      let r = shared front x u ts more m tails (omega arith) (omega arith) in
      (r.0, ap (λ (z : T). z ∷ ts) (sym head) ∙ ap (λ (z : List T). y ∷ z) r.1)

  -- where a limit is passed, reading stops there or before
  record StopsBy (ts : List T) (m : ℕ) (l : Limit) : Type 0 where
    kind : SyntaxFault
    front : List T
    x : T
    v : List T
    is : statements read (length ts) ts ≡ out (Err kind) (x ∷ v)
    text : ts ≡ front ++ x ∷ v
    before : length front ≤ m
    same : length front ≡ m → kind ≡ refusal_of l

  stops_by : (l : Limit) (ts : List T) (m : ℕ) → Passes G l ts m → StopsBy ts m l
  stops_by l ts m p =
      let ms = p.marks in
      let r = refused m ms p.statements l p.here in
      let n : ℕ = length (tokens ms) + length ts in
      let text : r.front ++ r.x ∷ r.v ≡ take (suc m) ts ++ p.more = sym r.text ∙ p.whole.text in
      let s = shared r.front r.x r.v ts p.more m text r.before p.within in
      let there : statements read n (r.front ++ r.x ∷ r.v) ≡ out (Err r.kind) (r.x ∷ r.v) = ap (statements read n) (sym r.text) ∙ reads_script p.whole.height n ms p.statements p.whole.script (omega arith) ∙ r.is in
      let here : statements read n (r.front ++ r.x ∷ s.0) ≡ out (Err r.kind) (r.x ∷ s.0) = (Stable-script G read law n).same r.front r.x r.v s.0 (Err r.kind) there in
      record { kind = r.kind; front = r.front; x = r.x; v = s.0; is = enough G read law (length ts) n ts (omega arith) (omega arith) ∙ ap (statements read n) s.1 ∙ here; text = s.1; before = r.before; same = r.same }

  -- ---- what is read is all of the tokens

  ok_all_more : (n : ℕ) → ((ts : List T) (ss : (List S)) (us : List T) → length ts ≤ n → statements read n ts ≡ out (Ok ss) us → us ≡ [])
      → (ts : List T) (ss : (List S)) (us : List T) → length ts ≤ suc n → and_then (read ts) (λ x vs. and_then (statements read n vs) (λ xs ws. out (Ok (x ∷ xs)) ws)) ≡ out (Ok ss) us → us ≡ []
  ok_all_more n ih ts ss us le e = by (read ts) refl e
    where
      last : (s : S) (o : Outcome T (List S)) → ((xs : (List S)) (ws : List T) → o ≡ out (Ok xs) ws → ws ≡ []) → and_then o (λ xs ws. out (Ok (s ∷ xs)) ws) ≡ out (Ok ss) us → us ≡ []
      last s (Ok xs, ws) f g = sym (ap (λ (o : Outcome T (List S)). o.1) g) ∙ f xs ws refl
      last s (Err r, ws) f g = absurd (let no_ok : Err r ≡ Ok ss = ap (λ (o : Outcome T (List S)). o.0) g in cc)

      by : (o : Outcome T S) → read ts ≡ o → and_then o (λ x vs. and_then (statements read n vs) (λ xs ws. out (Ok (x ∷ xs)) ws)) ≡ out (Ok ss) us → us ≡ []
      by (Ok s, vs) is f = last s (statements read n vs) (λ xs ws g. ih vs xs ws (let lt = Ended-shorter G read law ts vs s is in omega arith) g) f
      by (Err r, vs) is f = absurd (let no_ok : Err r ≡ Ok ss = ap (λ (o : Outcome T (List S)). o.0) f in cc)

  ok_all : (n : ℕ) (ts : List T) (ss : (List S)) (us : List T) → length ts ≤ n → statements read n ts ≡ out (Ok ss) us → us ≡ []
  unfolding statements
  ok_all zero [] ss us le e = sym (ap (λ (o : Outcome T (List S)). o.1) e)
  ok_all zero (t ∷ ts) ss us le e = absurd (omega arith)
  ok_all (suc n) [] ss us le e = sym (ap (λ (o : Outcome T (List S)). o.1) e)
  ok_all (suc n) (t ∷ ts) ss us le e = ok_all_more n (ok_all n) (t ∷ ts) ss us le e

  -- ---- the two verdicts

  no_limit : (l : Limit) (ts : List T) (ss : (List S)) (us : List T) (m : ℕ) → statements read (length ts) ts ≡ out (Ok ss) us → Passes G l ts m → ⊥
  no_limit l ts ss us m e p =
      let s = stops_by l ts m p in
      let same : Err s.kind ≡ Ok ss = ap (λ (o : Outcome T (List S)). o.0) (sym s.is ∙ e) in
      cc

  -- a script leaves no token that is unexpected
  no_unexpected : (ts : List T) (ss : (List S)) (m : ℕ) → IsScript G ts ss → IsUnexpected G ts m → ⊥
  no_unexpected ts ss m whole u =
      let e : take (suc m) ts ++ drop (suc m) ts ≡ ts = take-append-drop (suc m) ts in
      u.none (drop (suc m) ts) ss (at_end m ts u.within) (subst (λ (x : List T). IsScript G x ss) (sym e) whole)
    where
      at_end : (m : ℕ) (ts : List T) → m ≤ length ts → (m < length ts) ⊎ (drop (suc m) ts ≡ [])
      at_end m [] le = inr refl
      at_end zero (t ∷ ts) le = inl (omega arith)
      at_end (suc m) (t ∷ ts) le = elim (at_end m ts (omega arith)) [ inl h ↦ inl (omega arith) | inr h ↦ inr h ]

  pub read_is : (ts : List T) (ss : (List S)) (us : List T) → statements read (length ts) ts ≡ out (Ok ss) us → IsRead G ts ss
  read_is ts ss us e =
      let t : Takes (λ ms xs. Script G law.height xs ms) ts ss us = subst (Meets (λ ms xs. Script G law.height xs ms) ts) e ((Sound-script G read law (length ts)).at ts) in
      let nothing : us ≡ [] = ok_all (length ts) ts ss us (omega arith) e in
      let text : tokens t.marks ≡ ts = sym (t.text ∙ ap (λ (x : List T). tokens t.marks ++ x) nothing ∙ append-nil (tokens t.marks)) in
      let whole : IsScript G ts ss = record { marks = t.marks; spells = record { height = law.height; script = t.part; text = text } } in
      record { is = whole; only = λ others o. only others o; none = λ q m s. none whole q m s }
    where
      only : (others : (List S)) → IsScript G ts others → others ≡ ss
      only others o =
          let len : length (tokens o.marks) ≤ length ts = omega (arith, ap length o.spells.text) in
          let r : verdict o.marks [] (out (Ok others) []) ≡ out (Ok ss) us = sym (reads_script o.spells.height (length ts) o.marks others o.spells.script len) ∙ ap (statements read (length ts)) o.spells.text ∙ e in
          unbroken o.marks others r
        where
          unbroken : (ms : List (Mark T)) (xs : (List S)) → verdict ms [] (out (Ok xs) []) ≡ out (Ok ss) us → xs ≡ ss
          unbroken [] xs r = let same : Ok xs ≡ Ok ss = ap (λ (o : Outcome T (List S)). o.0) r in cc
          unbroken (m ∷ ms) xs r = by m.passes r (unbroken ms xs)
            where
              by : (p : Option Limit) → passing p (m.token ∷ (tokens ms ++ [])) (verdict ms [] (out (Ok xs) [])) ≡ out (Ok ss) us → (verdict ms [] (out (Ok xs) []) ≡ out (Ok ss) us → xs ≡ ss) → xs ≡ ss
              by None f ih = ih f
              by (Some l) f ih = absurd (let same : Err (refusal_of l) ≡ Ok ss = ap (λ (o : Outcome T (List S)). o.0) f in cc)

      none : IsScript G ts ss → (q : SyntaxFault) (m : ℕ) → Stands G q ts m → ⊥
      none whole Unexpected m s = no_unexpected ts ss m whole s
      none whole TooDeep m s = no_limit deep ts ss us m e s
      none whole TooWide m s = no_limit wide ts ss us m e s

  -- ---- a refusal is the first

  -- where nothing more is there, no script ends here
  unexpected_end : (ts : List T) (ss : (List S)) → statements read (length ts) ts ≡ out (Err Unexpected) [] → IsScript G ts ss → ⊥
  unexpected_end ts ss e o =
      let len : length (tokens o.marks) ≤ length ts = omega (arith, ap length o.spells.text) in
      let r : verdict o.marks [] (out (Ok ss) []) ≡ out (Err Unexpected) [] = sym (reads_script o.spells.height (length ts) o.marks ss o.spells.script len) ∙ ap (statements read (length ts)) o.spells.text ∙ e in
      let b = broken o.marks ss Unexpected [] r in
      let none : [] ≡ b.x ∷ b.v = b.rest in
      cc

  -- what is refused at a token, in each script that begins with the tokens up to it
  in_scripts : (front : List T) (x : T) (v more : List T) (r : SyntaxFault) (ms : List (Mark T)) (ss : (List S)) → statements read (length (front ++ x ∷ v)) (front ++ x ∷ v) ≡ out (Err r) (x ∷ v)
      → Spells G (front ++ x ∷ more) ms ss → Broken ms r (x ∷ more)
  in_scripts front x v more r ms ss e o =
      let n : ℕ = length (front ++ x ∷ v) + length (front ++ x ∷ more) in
      let there : statements read n (front ++ x ∷ v) ≡ out (Err r) (x ∷ v) = enough G read law n (length (front ++ x ∷ v)) (front ++ x ∷ v) (omega arith) (omega arith) ∙ e in
      let here : statements read n (front ++ x ∷ more) ≡ out (Err r) (x ∷ more) = (Stable-script G read law n).same front x v more (Err r) there in
      broken ms ss r (x ∷ more) (sym (reads_script o.height n ms ss o.script (omega (arith, ap length o.text))) ∙ ap (statements read n) o.text ∙ here)

  one_taken : (front : List T) (x : T) (v : List T) → take (suc (length front)) (front ++ x ∷ v) ≡ front ++ x ∷ []
  one_taken [] x v = refl
  one_taken (y ∷ front) x v = ap (λ (z : List T). y ∷ z) (one_taken front x v)

  -- the tokens before the refused one, and from there on
  module _ (front : List T) (x : T) (v : List T) where
    stands_unexpected : statements read (length (front ++ x ∷ v)) (front ++ x ∷ v) ≡ out (Err Unexpected) (x ∷ v) → CanBegin G front → Stands G Unexpected (front ++ x ∷ v) (length front)
    stands_unexpected e can = record { within = omega (arith, length-append front (x ∷ v)); least = rw (take_at front (x ∷ v) (length front) refl) can; none = λ more ss end o. none more ss o.marks o.spells }
      where
        none : (more : List T) (ss : (List S)) (ms : List (Mark T)) → Spells G (take (suc (length front)) (front ++ x ∷ v) ++ more) ms ss → ⊥
        none more ss ms o =
            let is : take (suc (length front)) (front ++ x ∷ v) ++ more ≡ front ++ x ∷ more = ap (λ (z : List T). z ++ more) (one_taken front x v) ∙ append_assoc front (x ∷ []) more in
            let b = in_scripts front x v more Unexpected ms ss e (record { height = o.height; script = o.script; text = o.text ∙ is }) in
            limit_not_unexpected b.limit b.is

    stands_limit : (l : Limit) → statements read (length (front ++ x ∷ v)) (front ++ x ∷ v) ≡ out (Err (refusal_of l)) (x ∷ v) → (more : List T) (ms : List (Mark T)) (ss : (List S)) (h : ℕ) → Script G h ss ms → tokens ms ≡ (front ++ x ∷ []) ++ more → Passes G l (front ++ x ∷ v) (length front)
    stands_limit l e more ms ss h g text =
        let is : tokens ms ≡ front ++ x ∷ more = text ∙ append_assoc front (x ∷ []) more in
        let b = in_scripts front x v more (refusal_of l) ms ss e (record { height = h; script = g; text = is }) in
        let place : length b.front ≡ length front = omega (arith, ap length (sym b.text ∙ is), ap length b.rest, length-append b.front (b.x ∷ b.v), length-append front (x ∷ more)) in
        let here : passes_at (length front) ms ≡ Some l = ap (λ (n : ℕ). passes_at n ms) (sym place) ∙ b.here ∙ ap Some (sym (refusal_is l b.limit b.is)) in
        record { within = omega (arith, length-append front (x ∷ v)); more = more; statements = ss; marks = ms; whole = record { height = h; script = g; text = text ∙ ap (λ (z : List T). z ++ more) (sym (one_taken front x v)) }; here = here }

  -- no token before what can begin a script is unexpected
  no_earlier : (front us : List T) (m : ℕ) → CanBegin G front → IsUnexpected G (front ++ us) m → m < length front → ⊥
  no_earlier front us m can u lt =
      let e : front ++ can.more ≡ take (suc m) (front ++ us) ++ (drop (suc m) front ++ can.more) = split m front us can.more lt in
      u.none (drop (suc m) front ++ can.more) can.statements (inl (omega (arith, length-append front us))) (subst (λ (y : List T). IsScript G y can.statements) e can.whole)
    where
      split : (m : ℕ) (front us more : List T) → m < length front → front ++ more ≡ take (suc m) (front ++ us) ++ (drop (suc m) front ++ more)
      split m [] us more lt = absurd (omega arith)
      split zero (t ∷ front) us more lt = refl
      split (suc m) (t ∷ front) us more lt = ap (λ (y : List T). t ∷ y) (split m front us more (omega arith))

  first_limit : (r : SyntaxFault) (front us : List T) (m : ℕ) (l : Limit) → statements read (length (front ++ us)) (front ++ us) ≡ out (Err r) us → Passes G l (front ++ us) m → (length front < m) ⊎ ((length front ≡ m) × (r ≡ refusal_of l))
  first_limit r front us m l e p =
      let s = stops_by l (front ++ us) m p in
      let both_are : out (Err r) us ≡ out (Err s.kind) (s.x ∷ s.v) = sym e ∙ s.is in
      let kind : Err r ≡ Err s.kind = ap (λ (o : Outcome T (List S)). o.0) both_are in
      let r_is : r ≡ s.kind = cc in
      let rest : us ≡ s.x ∷ s.v = ap (λ (o : Outcome T (List S)). o.1) both_are in
      let place : length front ≡ length s.front = omega (arith, ap length s.text, ap length rest, length-append front us, length-append s.front (s.x ∷ s.v)) in
      by (length s.front) place s.before (λ h. r_is ∙ s.same h)
    where
      by : (n : ℕ) → length front ≡ n → n ≤ m → (n ≡ m → r ≡ refusal_of l) → (length front < m) ⊎ ((length front ≡ m) × (r ≡ refusal_of l))
      by n p le f = elim (less_or n m le) [ inl h ↦ inl (omega arith) | inr h ↦ inr (p ∙ h, f h) ]
        where
          less_or : (n m : ℕ) → n ≤ m → (n < m) ⊎ (n ≡ m)
          less_or zero zero le = inr refl
          less_or zero (suc m) le = inl (omega arith)
          less_or (suc n) zero le = absurd (omega arith)
          less_or (suc n) (suc m) le = elim (less_or n m (omega arith)) [ inl h ↦ inl (omega arith) | inr h ↦ inr (ap suc h) ]

  first_of_all : (r : SyntaxFault) (front us : List T) → statements read (length (front ++ us)) (front ++ us) ≡ out (Err r) us → Stands G r (front ++ us) (length front) → CanBegin G front
      → (IsUnexpected G (front ++ us) (length front) → rank r ≤ 5) → IsFirst G r (front ++ us) (length front)
  first_of_all r front us e s can least = record { stands = s; first = first }
    where
      at : (m : ℕ) → IsUnexpected G (front ++ us) m → (length front < m) ⊎ (length front ≡ m) → (length front < m) ⊎ ((length front ≡ m) × (rank r ≤ 5))
      at m u (inl h) = inl h
      at m u (inr h) = inr (h, least (subst (λ (n : ℕ). IsUnexpected G (front ++ us) n) (sym h) u))

      order : (n m : ℕ) → (m < n → ⊥) → (n < m) ⊎ (n ≡ m)
      order zero zero f = inr refl
      order zero (suc m) f = inl (omega arith)
      order (suc n) zero f = absurd (f (omega arith))
      order (suc n) (suc m) f = elim (order n m (λ h. f (omega arith))) [ inl h ↦ inl (omega arith) | inr h ↦ inr (ap suc h) ]

      limit : (l : Limit) (m : ℕ) → Passes G l (front ++ us) m → (length front < m) ⊎ ((length front ≡ m) × (rank r ≤ rank (refusal_of l)))
      limit l m p = elim (first_limit r front us m l e p) [ inl h ↦ inl h | inr h ↦ inr (h.0, omega (arith, ap rank h.1)) ]

      first : (q : SyntaxFault) (m : ℕ) → Stands G q (front ++ us) m → (length front < m) ⊎ ((length front ≡ m) × (rank r ≤ rank q))
      first Unexpected m u = at m u (order (length front) m (no_earlier front us m can u))
      first TooDeep m p = limit deep m p
      first TooWide m p = limit wide m p

  -- Something that begins a script up to the refused token, this one included, leaves nothing unexpected there.
  not_unexpected : (front : List T) (x : T) (v more : List T) (ss : (List S)) → IsScript G ((front ++ x ∷ []) ++ more) ss → IsUnexpected G (front ++ x ∷ v) (length front) → ⊥
  not_unexpected front x v more ss o u =
      u.none more ss (inl (omega (arith, length-append front (x ∷ v)))) (subst (λ (z : List T). IsScript G (z ++ more) ss) (sym (one_taken front x v)) o)

  limit_first : (l : Limit) (front : List T) (x : T) (v more : List T) (ms : List (Mark T)) (ss : (List S)) → statements read (length (front ++ x ∷ v)) (front ++ x ∷ v) ≡ out (Err (refusal_of l)) (x ∷ v)
      → Script G law.height ss ms → tokens ms ≡ (front ++ x ∷ []) ++ more → IsFirst G (refusal_of l) (front ++ x ∷ v) (length front)
  limit_first l front x v more ms ss e g text =
      let stands : Passes G l (front ++ x ∷ v) (length front) = stands_limit front x v l e more ms ss law.height g text in
      let can : CanBegin G front = record { more = x ∷ more; statements = ss; whole = record { marks = ms; spells = record { height = law.height; script = g; text = text ∙ append_assoc front (x ∷ []) more } } } in
      let o : IsScript G ((front ++ x ∷ []) ++ more) ss = record { marks = ms; spells = record { height = law.height; script = g; text = text } } in
      first_of_all (refusal_of l) front (x ∷ v) e (stands_as l stands) can (λ u. absurd (not_unexpected front x v more ss o u))
    where
      stands_as : (l : Limit) → Passes G l (front ++ x ∷ v) (length front) → Stands G (refusal_of l) (front ++ x ∷ v) (length front)
      stands_as deep p = p
      stands_as wide p = p

  placed : (r : SyntaxFault) (front us : List T) (tail : List T) (ms : List (Mark T)) (ss : (List S)) → IsThere r us → statements read (length (front ++ us)) (front ++ us) ≡ out (Err r) us
      → Script G law.height ss ms → tokens ms ≡ (front ++ shown r us) ++ tail → IsFirst G r (front ++ us) (length front)
  placed Unexpected front [] tail ms ss there e g text =
      let can : CanBegin G front = record { more = tail; statements = ss; whole = record { marks = ms; spells = record { height = law.height; script = g; text = text ∙ ap (λ (z : List T). z ++ tail) (append-nil front) } } } in
      first_of_all Unexpected front [] e (end can) can (λ u. omega arith)
    where
      end : CanBegin G front → IsUnexpected G (front ++ []) (length front)
      end can = record {
        within = omega (arith, length-append front []);
        least = rw (take_at front [] (length front) refl) can;
        none = λ more xs at_end o. no_script more xs at_end o;
      }
        where
          no_script : (more : List T) (xs : (List S)) → (length front < length (front ++ [])) ⊎ (more ≡ []) → IsScript G (take (suc (length front)) (front ++ []) ++ more) xs → ⊥
          no_script more xs (inl h) o = omega (arith, h, length-append front [])
          no_script more xs (inr h) o =
              let all : (f : List T) → take (suc (length f)) (f ++ []) ≡ f ++ [] = all_taken in
              let is : take (suc (length front)) (front ++ []) ++ more ≡ front ++ [] = ap (λ (z : List T). z ++ more) (all front) ∙ ap (λ (z : List T). (front ++ []) ++ z) h ∙ append-nil (front ++ []) in
              unexpected_end (front ++ []) xs e (subst (λ (z : List T). IsScript G z xs) is o)
            where
              all_taken : (f : List T) → take (suc (length f)) (f ++ []) ≡ f ++ []
              all_taken [] = refl
              all_taken (y ∷ f) = ap (λ (z : List T). y ∷ z) (all_taken f)
  placed Unexpected front (x ∷ v) tail ms ss there e g text =
      let can : CanBegin G front = record { more = tail; statements = ss; whole = record { marks = ms; spells = record { height = law.height; script = g; text = text ∙ ap (λ (z : List T). z ++ tail) (append-nil front) } } } in
      first_of_all Unexpected front (x ∷ v) e (stands_unexpected front x v e can) can (λ u. omega arith)
  placed TooDeep front [] tail ms ss there e g text = elim there [ ]
  placed TooDeep front (x ∷ v) tail ms ss there e g text = limit_first deep front x v tail ms ss e g text
  placed TooWide front [] tail ms ss there e g text = elim there [ ]
  placed TooWide front (x ∷ v) tail ms ss there e g text = limit_first wide front x v tail ms ss e g text

  pub refusal_is_first : (ts : List T) (r : SyntaxFault) (us : List T) → statements read (length ts) ts ≡ out (Err r) us → IsFirst G r ts (length ts - length us)
  refusal_is_first ts r us e =
      let s : Stops (λ ms xs. Script G law.height xs ms) ts r us = subst (Meets (λ ms xs. Script G law.height xs ms) ts) e ((Sound-script G read law (length ts)).at ts) in
      let again : statements read (length (s.front ++ us)) (s.front ++ us) ≡ out (Err r) us = ap (λ (z : List T). statements read (length z) z) (sym s.text) ∙ e in
      let first : IsFirst G r (s.front ++ us) (length s.front) = placed r s.front us s.begins.tail s.begins.marks s.begins.value s.there again s.begins.part s.begins.text in
      let place : length s.front ≡ length ts - length us = omega (arith, ap length s.text, length-append s.front us) in
      subst (λ (n : ℕ). IsFirst G r ts n) place (subst (λ (z : List T). IsFirst G r z (length s.front)) (sym s.text) first)
