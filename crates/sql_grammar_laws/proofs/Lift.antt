-- The same tokens, where there is room for all of them: a text of the grammar is one with larger limits, and passes none.
use Rattle.std.proofs.Common.{◌≡◌, ℕ, zero, suc, ◌+◌, ◌≤◌, Bool, List, [], ◌∷◌, ◌++◌, length, refl, sym, ap, ◌∙◌, arith, inl, inr}
use Rattle.std.proofs.lemmas.List.{length-append}
use Rattle.sql_grammar_laws.specs.Marks.{Mark, tokens, plain, opening, element}
use Rattle.sql_grammar_laws.specs.Lines.{One, Opens, Empty, Then, Or, Map, less, Links, none, more, Never}
use Rattle.sql_grammar_laws.specs.Lifting.{AllPlain, Lifted, Lifts}
use Rattle.sql_grammar_laws.proofs.Sound.{tokens-append}
use Rattle.sql_grammar_laws.specs.Laws.{NonEmpty}

module _ {T : Type 0} where
  pub plain-append : (ms ns : List (Mark T)) → AllPlain ms → AllPlain ns → AllPlain (ms ++ ns)
  plain-append [] ns p q = q
  plain-append (m ∷ ms) ns p q = (p.0, plain-append ms ns p.1 q)

  pub Lifts-one : (n : ℕ) (test : T → Bool) → Lifts n (One test) (One test)
  Lifts-one n test = record { at = λ ms t g le. record { marks = plain t ∷ []; part = (g.0, refl); text = sym (ap tokens g.1); free = (refl, tt) } }

  pub Lifts-or : {A : Type 0} {G G' H H' : List (Mark T) → A → Type 0} (n : ℕ) → Lifts n G G' → Lifts n H H' → Lifts n (Or G H) (Or G' H')
  Lifts-or {A} {G} {G'} {H} {H'} n l r = record { at = λ ms a g le. by ms a g le }
    where
      by : (ms : List (Mark T)) (a : A) → Or G H ms a → length (tokens ms) ≤ n → Lifted (Or G' H') ms a
      by ms a (inl g) le = let x = l.at ms a g le in record { marks = x.marks; part = inl x.part; text = x.text; free = x.free }
      by ms a (inr g) le = let x = r.at ms a g le in record { marks = x.marks; part = inr x.part; text = x.text; free = x.free }

  pub Lifts-map : {A B : Type 0} {G G' : List (Mark T) → A → Type 0} (n : ℕ) (f : A → B) → Lifts n G G' → Lifts n (Map f G) (Map f G')
  Lifts-map n f l = record { at = λ ms b g le. let x = l.at ms g.a g.part le in record { marks = x.marks; part = record { a = g.a; part = x.part; value = g.value }; text = x.text; free = x.free } }

  pub Lifts-then : {A B C : Type 0} {G G' : List (Mark T) → A → Type 0} {H H' : List (Mark T) → B → Type 0} (n : ℕ) (f : A → B → C) → Lifts n G G' → Lifts n H H' → Lifts n (Then f G H) (Then f G' H')
  Lifts-then {A} {B} {C} {G} {G'} {H} {H'} n f l r = record { at = λ ms c g le. by ms c g le }
    where
      by : (ms : List (Mark T)) (c : C) → Then f G H ms c → length (tokens ms) ≤ n → Lifted (Then f G' H') ms c
      by ms c g le =
          let whole : tokens ms ≡ tokens g.front ++ tokens g.back = ap tokens g.text ∙ tokens-append g.front g.back in
          let len : length (tokens g.front) + length (tokens g.back) ≤ n = omega (arith, le, ap length whole, length-append (tokens g.front) (tokens g.back)) in
          let x = l.at g.front g.a g.first (omega arith) in
          let y = r.at g.back g.b g.second (omega arith) in
          record {
            marks = x.marks ++ y.marks;
            part = record { front = x.marks; back = y.marks; a = g.a; b = g.b; first = x.part; second = y.part; text = refl; value = g.value };
            text = tokens-append x.marks y.marks ∙ ap (λ (z : List T). z ++ tokens y.marks) x.text ∙ ap (λ (z : List T). tokens g.front ++ z) y.text ∙ sym whole;
            free = plain-append x.marks y.marks x.free y.free;
          }

  -- a token that opens, and what stands inside, which is shorter
  pub Lifts-opens : {B C : Type 0} {H H' : List (Mark T) → B → Type 0} (n room : ℕ) (test : T → Bool) (f : T → B → C) → Lifts n H H' → Lifts (suc n) (Then f (Opens room test) H) (Then f (Opens (suc n) test) H')
  Lifts-opens {B} {C} {H} {H'} n room test f r = record { at = λ ms c g le. by ms c g le }
    where
      opened : (room : ℕ) (t : T) (ns : List (Mark T)) → tokens (opening room t ∷ [] ++ ns) ≡ t ∷ tokens ns
      opened zero t ns = refl
      opened (suc room) t ns = refl

      by : (ms : List (Mark T)) (c : C) → Then f (Opens room test) H ms c → length (tokens ms) ≤ suc n → Lifted (Then f (Opens (suc n) test) H') ms c
      by ms c g le =
          let whole : tokens ms ≡ g.a ∷ tokens g.back = ap tokens (g.text ∙ ap (λ (x : List (Mark T)). x ++ g.back) g.first.1) ∙ opened room g.a g.back in
          let y = r.at g.back g.b g.second (omega (arith, ap length whole)) in
          record {
            marks = plain g.a ∷ y.marks;
            part = record { front = plain g.a ∷ []; back = y.marks; a = g.a; b = g.b; first = (g.first.0, refl); second = y.part; text = refl; value = g.value };
            text = ap (λ (z : List T). g.a ∷ z) y.text ∙ sym whole;
            free = (refl, y.free);
          }

  element_tokens : (room : ℕ) (ms : List (Mark T)) → tokens (element room ms) ≡ tokens ms
  element_tokens zero [] = refl
  element_tokens zero (m ∷ ms) = refl
  element_tokens (suc room) ms = refl

  some_marks : {A : Type 0} {G : List (Mark T) → A → Type 0} → NonEmpty G → (ks : List (Mark T)) (a : A) → G ks a → 1 ≤ length (tokens ks)
  some_marks ne [] a x = absurd (ne.never a x)
  some_marks ne (y ∷ ks) a x = omega arith

  pub Lifts-empty : {A : Type 0} (n : ℕ) (a : A) → Lifts n (Empty {T = T} a) (Empty a)
  Lifts-empty n a = record { at = λ ms b g le. record { marks = []; part = (refl, g.1); text = sym (ap tokens g.0); free = tt } }

  pub Lifts-fewer : {A : Type 0} {G H : List (Mark T) → A → Type 0} (m n : ℕ) → m ≤ n → Lifts n G H → Lifts m G H
  Lifts-fewer m n le l = record { at = λ ms a g k. l.at ms a g (omega arith) }

  -- no text begins with a token that opens where there is room for no token at all
  pub Lifts-closed : {B C : Type 0} {H : List (Mark T) → B → Type 0} {X : List (Mark T) → C → Type 0} (room : ℕ) (test : T → Bool) (f : T → B → C) → Lifts 0 (Then f (Opens room test) H) X
  Lifts-closed {B} {C} {H} {X} room test f = record { at = λ ms c g le. absurd (no ms c g le) }
    where
      opened : (room : ℕ) (t : T) (ns : List (Mark T)) → tokens (opening room t ∷ [] ++ ns) ≡ t ∷ tokens ns
      opened zero t ns = refl
      opened (suc room) t ns = refl

      no : (ms : List (Mark T)) (c : C) → Then f (Opens room test) H ms c → length (tokens ms) ≤ 0 → ⊥
      no ms c g le =
          let whole : tokens ms ≡ g.a ∷ tokens g.back = ap tokens (g.text ∙ ap (λ (x : List (Mark T)). x ++ g.back) g.first.1) ∙ opened room g.a g.back in
          omega (arith, ap length whole)

  -- each link takes a token, so a list of n tokens has no more than n of them
  pub Lifts-links : {A B D : Type 0} {J : List (Mark T) → D → Type 0} {G G' : List (Mark T) → A → Type 0} (n : ℕ) (link : D → A → B) → NonEmpty G → Lifts n J J → Lifts n G G'
      → (room wide : ℕ) (ms : List (Mark T)) (bs : List B) → Links J link G room ms bs → length (tokens ms) ≤ n → length (tokens ms) ≤ wide → Lifted (Links J link G' wide) ms bs
  Lifts-links n link ne k l room wide ms bs none le lw = record { marks = []; part = none; text = refl; free = tt }
  Lifts-links {A} {B} {D} {J} {G} {G'} n link ne k l room zero ms bs (more js is ns d a rest h g m) le lw = absurd (some is g (omega (arith, whole, lw)))
    where
      whole : length (tokens (js ++ (element room is ++ ns))) ≡ length (tokens js) + (length (tokens is) + length (tokens ns))
      whole = ap length (tokens-append js (element room is ++ ns)) ∙ length-append (tokens js) (tokens (element room is ++ ns)) ∙ ap (λ (z : ℕ). length (tokens js) + z) (ap length (tokens-append (element room is) ns) ∙ length-append (tokens (element room is)) (tokens ns) ∙ ap (λ (z : List T). length z + length (tokens ns)) (element_tokens room is))

      some : (ks : List (Mark T)) → G ks a → length (tokens ks) ≤ 0 → ⊥
      some [] x le = ne.never a x
      some (y ∷ ks) x le = omega arith
  Lifts-links n link ne k l room (suc wide) ms bs (more js is ns d a rest h g m) le lw =
      let whole : length (tokens (js ++ (element room is ++ ns))) ≡ length (tokens js) + (length (tokens is) + length (tokens ns)) = ap length (tokens-append js (element room is ++ ns)) ∙ length-append (tokens js) (tokens (element room is ++ ns)) ∙ ap (λ (z : ℕ). length (tokens js) + z) (ap length (tokens-append (element room is) ns) ∙ length-append (tokens (element room is)) (tokens ns) ∙ ap (λ (z : List T). length z + length (tokens ns)) (element_tokens room is)) in
      let some = some_marks ne is a g in
      let q = k.at js d h (omega (arith, whole)) in
      let x = l.at is a g (omega (arith, whole)) in
      let y = Lifts-links n link ne k l (less room) wide ns rest m (omega (arith, whole)) (omega (arith, whole, some)) in
      record {
        marks = q.marks ++ (x.marks ++ y.marks);
        part = more q.marks x.marks y.marks d a rest q.part x.part y.part;
        text = tokens-append q.marks (x.marks ++ y.marks) ∙ ap (λ (z : List T). z ++ tokens (x.marks ++ y.marks)) q.text ∙ ap (λ (z : List T). tokens js ++ z) (tokens-append x.marks y.marks ∙ ap (λ (z : List T). z ++ tokens y.marks) (x.text ∙ sym (element_tokens room is)) ∙ ap (λ (z : List T). tokens (element room is) ++ z) y.text ∙ sym (tokens-append (element room is) ns)) ∙ sym (tokens-append js (element room is ++ ns));
        free = plain-append q.marks (x.marks ++ y.marks) q.free (plain-append x.marks y.marks x.free y.free);
      }

  -- a list or a chain, with room for as many elements as there are tokens
  pub Lifts-list : {A B D : Type 0} {J : List (Mark T) → D → Type 0} {G G' : List (Mark T) → A → Type 0} (n wide : ℕ) (link : D → A → B) (width : ℕ) → n ≤ wide → NonEmpty G → Lifts n J J → Lifts n G G' → Lifts n (Links J link G width) (Links J link G' wide)
  Lifts-list n wide link width le ne k l = record { at = λ ms bs x h. Lifts-links n link ne k l width wide ms bs x h (omega arith) }

  -- what stands inside a level is shorter by the token that opens it
  abbrev pub Below : {A : Type 0} → ℕ → (List (Mark T) → A → Type 0) → (List (Mark T) → A → Type 0) → Type 0
  Below zero G H = Unit {0}
  Below (suc n) G H = Lifts n G H

  pub below : {A B : Type 0} {G G' : List (Mark T) → A → Type 0} {H H' : List (Mark T) → B → Type 0} (n : ℕ) → ((m : ℕ) → m ≤ n → Lifts m G G' → Lifts m H H') → Below n G G' → Below n H H'
  below zero f b = tt
  below (suc n) f b = f n (omega arith) b

  pub Lifts-level : {B C : Type 0} {H H' : List (Mark T) → B → Type 0} (n room : ℕ) (test : T → Bool) (f : T → B → C) → Below n H H' → Lifts n (Then f (Opens room test) H) (Then f (Opens n test) H')
  Lifts-level zero room test f b = Lifts-closed room test f
  Lifts-level (suc n) room test f b = Lifts-opens n room test f b

  pub always : {B : Type 0} {H H' : List (Mark T) → B → Type 0} (n : ℕ) → ((m : ℕ) → Lifts m H H') → Below n H H'
  always zero f = tt
  always (suc n) f = f n

  pub Lifts-never : {A : Type 0} {H : List (Mark T) → A → Type 0} (n : ℕ) → Lifts n (Never {T = T} {A = A}) H
  Lifts-never n = record { at = λ ms a g le. absurd g }
