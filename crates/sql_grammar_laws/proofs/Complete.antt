-- What is in the grammar is read, up to the first token at which it passes a limit.
use Rattle.std.proofs.Common.{◌≡◌, ℕ, zero, suc, ◌<◌, Bool, true, false, cond, eqb, List, [], ◌∷◌, ◌++◌, length, Option, Some, None, Ok, Err, refl, sym, ap, subst, ◌∙◌, append_assoc, arith, inl, inr}
use Rattle.std.proofs.lemmas.Bool.Decides.{nat_tests}
use Rattle.sql_grammar_laws.specs.declared.fault.SyntaxFault.TheVariants.{TooWide}
use Rattle.sql_grammar_laws.specs.Marks.{Mark, Limit, tokens, plain, opening, element, or_wide}
use Rattle.sql_grammar_laws.specs.Lines.{One, Opens, Empty, Then, Or, Map, Element, Links}
use Rattle.sql_grammar_laws.specs.Readings.{Outcome, and_then, starts, one, opens, nothing, both, mapped, either, crowded, crowd, links}
use Rattle.sql_grammar_laws.proofs.Sound.{tokens-append}
use Rattle.sql_grammar_laws.proofs.Stable.{out}
use Rattle.sql_grammar_laws.proofs.Chains.{Links-out}
use Rattle.sql_grammar_laws.specs.Laws.{passing, verdict, Complete, NonEmpty}

eqb_same : (n : ℕ) → eqb n n ≡ true
eqb_same n = grind (arith, nat_tests)

eqb_less : (m n : ℕ) → m < n → eqb m n ≡ false
eqb_less m n h = grind (arith, nat_tests)

module _ {T : Type 0} where
  tokens-assoc : (ms ns : List (Mark T)) (rest : List T) → tokens (ms ++ ns) ++ rest ≡ tokens ms ++ (tokens ns ++ rest)
  tokens-assoc ms ns rest = ap (λ (x : List T). x ++ rest) (tokens-append ms ns) ∙ append_assoc (tokens ms) (tokens ns) rest

  pub verdict-append : {A : Type 0} (ms ns : List (Mark T)) (rest : List T) (o : Outcome T A) → verdict (ms ++ ns) rest o ≡ verdict ms (tokens ns ++ rest) (verdict ns rest o)
  verdict-append [] ns rest o = refl
  verdict-append {A} (m ∷ ms) ns rest o = rw (tokens-assoc ms ns rest, verdict-append ms ns rest o) refl

  pub and_then-verdict : {A B : Type 0} (ms : List (Mark T)) (rest : List T) (o : Outcome T A) (f : A → List T → Outcome T B) → and_then (verdict ms rest o) f ≡ verdict ms rest (and_then o f)
  and_then-verdict [] rest o f = refl
  and_then-verdict {A} {B} (m ∷ ms) rest o f = by m.passes (and_then-verdict ms rest o f)
    where
      by : (p : Option Limit) → and_then (verdict ms rest o) f ≡ verdict ms rest (and_then o f) → and_then (passing p (m.token ∷ (tokens ms ++ rest)) (verdict ms rest o)) f ≡ passing p (m.token ∷ (tokens ms ++ rest)) (verdict ms rest (and_then o f))
      by None e = e
      by (Some r) e = refl

  pub Complete-narrower : {A : Type 0} {G H : List (Mark T) → A → Type 0} {p : List T → Outcome T A} {F E : List T → Type 0}
      → ((ms : List (Mark T)) (a : A) → H ms a → G ms a) → ((ts : List T) → E ts → F ts) → Complete G p F → Complete H p E
  Complete-narrower f g c = record { at = λ ms a rest h e. c.at ms a rest (f ms a h) (g rest e) }

  pub Complete-one : (test : T → Bool) (F : List T → Type 0) → Complete (One test) (one test) F
  Complete-one test F = record { at = λ ms t rest g e. by ms t rest g.0 g.1 }
    where
      by : (ms : List (Mark T)) (t : T) (rest : List T) → test t ≡ true → ms ≡ plain t ∷ [] → one test (tokens ms ++ rest) ≡ verdict ms rest (out (Ok t) rest)
      by ms t rest passed is = rw (is, passed) refl

  pub Complete-opens : (room : ℕ) (test : T → Bool) (F : List T → Type 0) → Complete (Opens room test) (opens room test) F
  Complete-opens room test F = record { at = λ ms t rest g e. by room ms t rest g.0 g.1 }
    where
      by : (n : ℕ) (ms : List (Mark T)) (t : T) (rest : List T) → test t ≡ true → ms ≡ opening n t ∷ [] → opens n test (tokens ms ++ rest) ≡ verdict ms rest (out (Ok t) rest)
      by zero ms t rest passed is = rw (is, passed) refl
      by (suc n) ms t rest passed is = rw (is, passed) refl

  pub Complete-nothing : {A : Type 0} (a : A) (F : List T → Type 0) → Complete (Empty a) (nothing a) F
  Complete-nothing {A} a F = record { at = λ ms b rest g e. by ms b rest g.0 g.1 }
    where
      by : (ms : List (Mark T)) (b : A) (rest : List T) → ms ≡ [] → b ≡ a → nothing a (tokens ms ++ rest) ≡ verdict ms rest (out (Ok b) rest)
      by ms b rest e f = rw (e, f) refl

  pub Complete-mapped : {A B : Type 0} {G : List (Mark T) → A → Type 0} {p : List T → Outcome T A} {F : List T → Type 0} (f : A → B) → Complete G p F → Complete (Map f G) (mapped f p) F
  Complete-mapped {A} {B} {G} {p} {F} f c = record { at = λ ms b rest g e. by ms b rest g e }
    where
      by : (ms : List (Mark T)) (b : B) (rest : List T) → Map f G ms b → F rest → mapped f p (tokens ms ++ rest) ≡ verdict ms rest (out (Ok b) rest)
      by ms b rest g e = ap (λ (o : Outcome T A). and_then o (λ a us. out (Ok (f a)) us)) (c.at ms g.a rest g.part e) ∙ and_then-verdict ms rest (out (Ok g.a) rest) (λ a us. out (Ok (f a)) us) ∙ ap (λ (y : B). verdict ms rest (out (Ok y) rest)) (sym g.value)

  abbrev pub then_with : {A B C : Type 0} → (A → B → C) → (List T → Outcome T B) → A → List T → Outcome T C
  then_with f q a us = and_then (q us) (λ b vs. out (Ok (f a b)) vs)

  pub Complete-both : {A B C : Type 0} {G : List (Mark T) → A → Type 0} {H : List (Mark T) → B → Type 0} {p : List T → Outcome T A} {q : List T → Outcome T B} {E F : List T → Type 0} (f : A → B → C)
      → Complete G p E → Complete H q F → ((ns : List (Mark T)) (b : B) (rest : List T) → H ns b → F rest → E (tokens ns ++ rest)) → Complete (Then f G H) (both f p q) F
  Complete-both {A} {B} {C} {G} {H} {p} {q} {E} {F} f c d next = record { at = λ ms b rest g e. at ms b rest g e }
    where
      parts : (ms ns : List (Mark T)) (a : A) (b : B) (rest : List T) → G ms a → H ns b → F rest → both f p q (tokens ms ++ (tokens ns ++ rest)) ≡ verdict ms (tokens ns ++ rest) (verdict ns rest (out (Ok (f a b)) rest))
      parts ms ns a b rest g h e =
          ap (λ (o : Outcome T A). and_then o (then_with f q)) (c.at ms a (tokens ns ++ rest) g (next ns b rest h e))
          ∙ and_then-verdict ms (tokens ns ++ rest) (out (Ok a) (tokens ns ++ rest)) (then_with f q)
          ∙ ap (λ (o : Outcome T B). verdict ms (tokens ns ++ rest) (and_then o (λ y vs. out (Ok (f a y)) vs))) (d.at ns b rest h e)
          ∙ ap (verdict ms (tokens ns ++ rest)) (and_then-verdict ns rest (out (Ok b) rest) (λ y vs. out (Ok (f a y)) vs))

      at : (ms : List (Mark T)) (z : C) (rest : List T) → Then f G H ms z → F rest → both f p q (tokens ms ++ rest) ≡ verdict ms rest (out (Ok z) rest)
      at ms z rest t e =
          ap (λ (x : List (Mark T)). both f p q (tokens x ++ rest)) t.text
          ∙ ap (both f p q) (tokens-assoc t.front t.back rest)
          ∙ parts t.front t.back t.a t.b rest t.first t.second e
          ∙ sym (verdict-append t.front t.back rest (out (Ok (f t.a t.b)) rest))
          ∙ ap (λ (x : List (Mark T)). verdict x rest (out (Ok (f t.a t.b)) rest)) (sym t.text)
          ∙ ap (λ (y : C). verdict ms rest (out (Ok y) rest)) (sym t.value)

  -- where there is no room, what would stand inside doesn't matter
  pub Complete-full : {B C : Type 0} {H : List (Mark T) → B → Type 0} {F : List T → Type 0} (f : T → B → C) (test : T → Bool) (q : List T → Outcome T B) → Complete (Then f (Opens 0 test) H) (both f (opens 0 test) q) F
  Complete-full {B} {C} {H} {F} f test q = record { at = λ ms b rest g e. at ms b rest g }
    where
      at : (ms : List (Mark T)) (z : C) (rest : List T) → Then f (Opens 0 test) H ms z → both f (opens 0 test) q (tokens ms ++ rest) ≡ verdict ms rest (out (Ok z) rest)
      at ms z rest t =
          let is : ms ≡ opening 0 t.a ∷ t.back = t.text ∙ ap (λ (x : List (Mark T)). x ++ t.back) t.first.1 in
          rw (is, t.first.0) refl

  pub Complete-either : {A : Type 0} {G H : List (Mark T) → A → Type 0} {p q : List T → Outcome T A} {F : List T → Type 0} (test : T → Bool)
      → ((ms : List (Mark T)) (a : A) (rest : List T) → G ms a → F rest → starts test (tokens ms ++ rest) ≡ true)
      → ((ms : List (Mark T)) (a : A) (rest : List T) → H ms a → F rest → starts test (tokens ms ++ rest) ≡ false)
      → Complete G p F → Complete H q F → Complete (Or G H) (either test p q) F
  Complete-either {A} {G} {H} {p} {q} {F} test passed avoids c d = record { at = λ ms a rest g e. at ms a rest g e }
    where
      at : (ms : List (Mark T)) (a : A) (rest : List T) → Or G H ms a → F rest → either test p q (tokens ms ++ rest) ≡ verdict ms rest (out (Ok a) rest)
      at ms a rest (inl g) e = ap (λ (b : Bool). cond b (p (tokens ms ++ rest)) (q (tokens ms ++ rest))) (passed ms a rest g e) ∙ c.at ms a rest g e
      at ms a rest (inr h) e = ap (λ (b : Bool). cond b (p (tokens ms ++ rest)) (q (tokens ms ++ rest))) (avoids ms a rest h e) ∙ d.at ms a rest h e

  -- ---- lists and chains

  crowded-verdict : {A : Type 0} (ts : List T) (ns : List (Mark T)) (a : A) (rest : List T) → length (tokens ns ++ rest) < length ts → crowded ts (verdict ns rest (out (Ok a) rest)) ≡ out (Err TooWide) ts
  crowded-verdict ts [] a rest h = refl
  crowded-verdict {A} ts (n ∷ ns) a rest h = by n.passes (crowded-verdict ts ns a rest (omega arith))
    where
      by : (p : Option Limit) → crowded ts (verdict ns rest (out (Ok a) rest)) ≡ out (Err TooWide) ts → crowded ts (passing p (n.token ∷ (tokens ns ++ rest)) (verdict ns rest (out (Ok a) rest))) ≡ out (Err TooWide) ts
      by None e = e
      by (Some r) e = rw (eqb_less (length (n.token ∷ (tokens ns ++ rest))) (length ts) h) refl

  crowded-first : {A : Type 0} (m : Mark T) (ns : List (Mark T)) (a : A) (rest : List T)
      → crowded (m.token ∷ (tokens ns ++ rest)) (verdict (m ∷ ns) rest (out (Ok a) rest)) ≡ verdict (element 0 (m ∷ ns)) rest (out (Ok a) rest)
  crowded-first {A} m ns a rest = by m.passes
    where
      ts : List T
      ts = m.token ∷ (tokens ns ++ rest)

      by : (p : Option Limit) → crowded (m.token ∷ (tokens ns ++ rest)) (passing p (m.token ∷ (tokens ns ++ rest)) (verdict ns rest (out (Ok a) rest))) ≡ passing (or_wide p) (m.token ∷ (tokens ns ++ rest)) (verdict ns rest (out (Ok a) rest))
      by None = crowded-verdict (m.token ∷ (tokens ns ++ rest)) ns a rest (omega arith)
      by (Some r) = rw (eqb_same (length (m.token ∷ (tokens ns ++ rest)))) refl

  pub Complete-crowd : {A : Type 0} {G : List (Mark T) → A → Type 0} {p : List T → Outcome T A} {F : List T → Type 0} → Complete G p F → NonEmpty G → Complete (Element 0 G) (crowd p) F
  Complete-crowd {A} {G} {p} {F} c ne = record { at = λ ms a rest g e. at ms a rest g e }
    where
      inside : (ns : List (Mark T)) (a : A) (rest : List T) → G ns a → F rest → crowd p (tokens (element 0 ns) ++ rest) ≡ verdict (element 0 ns) rest (out (Ok a) rest)
      inside [] a rest g e = absurd (ne.never a g)
      inside (n ∷ ns) a rest g e = ap (crowded (n.token ∷ (tokens ns ++ rest))) (c.at (n ∷ ns) a rest g e) ∙ crowded-first n ns a rest

      at : (ms : List (Mark T)) (a : A) (rest : List T) → Element 0 G ms a → F rest → crowd p (tokens ms ++ rest) ≡ verdict ms rest (out (Ok a) rest)
      at ms a rest g e =
          let P : List (Mark T) → Type 0 = λ x. crowd p (tokens x ++ rest) ≡ verdict x rest (out (Ok a) rest) in
          subst P (sym g.text) (inside g.inner a rest g.part e)

  Complete-element : {A : Type 0} {G : List (Mark T) → A → Type 0} {p : List T → Outcome T A} {F : List T → Type 0} (room : ℕ) → Complete G p F → Complete (Element (suc room) G) p F
  Complete-element {A} {G} {p} {F} room c = Complete-narrower (λ ms a g. same ms a g) (λ ts e. e) c
    where
      same : (ms : List (Mark T)) (a : A) → Element (suc room) G ms a → G ms a
      same ms a g = let P : List (Mark T) → Type 0 = λ x. G x a in subst P (sym g.text) g.part

  -- after an element there is the end of the list, or a token that goes on
  abbrev pub Ended : (T → Bool) → (List T → Type 0) → List T → Type 0
  Ended test F ts = (starts test ts ≡ false) × F ts

  -- a token that passes the test stands first
  pub record Begun {A : Type 0} (test : T → Bool) (G : List (Mark T) → A → Type 0) : Type 0 where
    pub at : (ms : List (Mark T)) (a : A) → G ms a → (m : Mark T) × (ns : List (Mark T)) × (ms ≡ m ∷ ns) × (test m.token ≡ true)

  -- an element that is one too many is refused, whatever comes after it
  stuck : {A C : Type 0} (G : List (Mark T) → A → Type 0) (ne : NonEmpty G) (ms : List (Mark T)) (a : A) (rest : List T) (o o' : Outcome T C) → Element 0 G ms a → verdict ms rest o ≡ verdict ms rest o'
  stuck {A} {C} G ne ms a rest o o' g = let P : List (Mark T) → Type 0 = λ x. verdict x rest o ≡ verdict x rest o' in subst P (sym g.text) (inside g.inner g.part)
    where
      by : (m : Mark T) (ns : List (Mark T)) (q : Option Limit) → passing (or_wide q) (m.token ∷ (tokens ns ++ rest)) (verdict ns rest o) ≡ passing (or_wide q) (m.token ∷ (tokens ns ++ rest)) (verdict ns rest o')
      by m ns None = refl
      by m ns (Some r) = refl

      inside : (ns : List (Mark T)) → G ns a → verdict (element 0 ns) rest o ≡ verdict (element 0 ns) rest o'
      inside [] h = absurd (ne.never a h)
      inside (m ∷ ns) h = by m ns m.passes

  module _ {A B D : Type 0} (test : T → Bool) (J : List (Mark T) → D → Type 0) (join : List T → Outcome T D) (link : D → A → B) (G : List (Mark T) → A → Type 0) (p : List T → Outcome T A) (E F : List T → Type 0)
      (cj : Complete J join E) (c : Complete G p F) (ne : NonEmpty G)
      (begun : (room : ℕ) → Begun test (Then link J (Element room G)))
      (joined : (room : ℕ) (ns : List (Mark T)) (a : A) (rest : List T) → Element room G ns a → F rest → E (tokens ns ++ rest))
      (goes_on : (t : T) (ts : List T) → test t ≡ true → F (t ∷ ts)) where
    link_begins : (room : ℕ) (q : ℕ) (ms : List (Mark T)) (bs : List B) (rest : List T) → Then (λ b cs. b ∷ cs) (Then link J (Element room G)) (Links J link G q) ms bs → starts test (tokens ms ++ rest) ≡ true
    link_begins room q ms bs rest t =
        let x = (begun room).at t.front t.a t.first in
        let is : ms ≡ x.0 ∷ (x.1 ++ t.back) = t.text ∙ ap (λ (y : List (Mark T)). y ++ t.back) x.2 in
        rw is x.3

    links_end : (ms : List (Mark T)) (bs : List B) (rest : List T) → Empty [] ms bs → Ended test F rest → starts test (tokens ms ++ rest) ≡ false
    links_end ms bs rest g e = rw g.0 e.0

    pub Links-next : (room : ℕ) (ns : List (Mark T)) (bs : List B) (rest : List T) → Links J link G room ns bs → Ended test F rest → F (tokens ns ++ rest)
    Links-next room ns bs rest l e = elim (Links-out J link G room ns bs l) [
      | inl t ↦
          let x = (begun room).at t.front t.a t.first in
          let is : ns ≡ x.0 ∷ (x.1 ++ t.back) = t.text ∙ ap (λ (y : List (Mark T)). y ++ t.back) x.2 in
          let P : List (Mark T) → Type 0 = λ y. F (tokens y ++ rest) in
          subst P (sym is) (goes_on x.0.token (tokens (x.1 ++ t.back) ++ rest) x.3)
      | inr g ↦ let P : List (Mark T) → Type 0 = λ y. F (tokens y ++ rest) in subst P (sym g.0) e.1
    ]

    wide_link : Complete (Then link J (Element 0 G)) (both link join (crowd p)) F
    wide_link = Complete-both link cj (Complete-crowd c ne) (joined 0)

    wide_links : Complete (Then (λ b bs. b ∷ bs) (Then link J (Element 0 G)) (Links J link G 0)) (both (λ b bs. b ∷ bs) (both link join (crowd p)) (nothing [])) (Ended test F)
    wide_links = record { at = λ ms bs rest t e. at ms bs rest t e }
      where
        at : (ms : List (Mark T)) (bs : List B) (rest : List T) → Then (λ b bs. b ∷ bs) (Then link J (Element 0 G)) (Links J link G 0) ms bs → Ended test F rest
            → both (λ b bs. b ∷ bs) (both link join (crowd p)) (nothing []) (tokens ms ++ rest) ≡ verdict ms rest (out (Ok bs) rest)
        at ms bs rest t e =
            let R : List T = tokens t.back ++ rest in
            let o : Outcome T (List B) = out (Ok (t.a ∷ [])) R in
            let o' : Outcome T (List B) = verdict t.back rest (out (Ok (t.a ∷ t.b)) rest) in
            let later : List T = tokens t.first.back ++ R in
            let inner : verdict t.first.back R o ≡ verdict t.first.back R o' = stuck G ne t.first.back t.first.b R o o' t.first.second in
            let split : (z : Outcome T (List B)) → verdict t.front R z ≡ verdict t.first.front later (verdict t.first.back R z) = λ z. ap (λ (x : List (Mark T)). verdict x R z) t.first.text ∙ verdict-append t.first.front t.first.back R z in
            let stays : verdict t.front R o ≡ verdict t.front R o' = split o ∙ ap (verdict t.first.front later) inner ∙ sym (split o') in
            ap (λ (x : List (Mark T)). both (λ b cs. b ∷ cs) (both link join (crowd p)) (nothing []) (tokens x ++ rest)) t.text
            ∙ ap (both (λ b cs. b ∷ cs) (both link join (crowd p)) (nothing [])) (tokens-assoc t.front t.back rest)
            ∙ ap (λ (y : Outcome T B). and_then y (λ b us. out (Ok (b ∷ [])) us)) (wide_link.at t.front t.a R t.first (Links-next 0 t.back t.b rest t.second e))
            ∙ and_then-verdict t.front R (out (Ok t.a) R) (λ b us. out (Ok (b ∷ [])) us)
            ∙ stays
            ∙ sym (verdict-append t.front t.back rest (out (Ok (t.a ∷ t.b)) rest))
            ∙ ap (λ (x : List (Mark T)). verdict x rest (out (Ok (t.a ∷ t.b)) rest)) (sym t.text)
            ∙ ap (λ (y : List B). verdict ms rest (out (Ok y) rest)) (sym t.value)

    pub Complete-links : (room : ℕ) → Complete (Links J link G room) (links test join link p room) (Ended test F)
    unfolding links
    Complete-links zero =
        Complete-narrower (Links-out J link G 0) (λ ts e. e)
        (Complete-either test (λ ms bs rest t e. link_begins 0 0 ms bs rest t) (λ ms bs rest g e. links_end ms bs rest g e)
        wide_links
        (Complete-nothing [] (Ended test F)))
    Complete-links (suc room) =
        Complete-narrower (Links-out J link G (suc room)) (λ ts e. e)
        (Complete-either test (λ ms bs rest t e. link_begins (suc room) room ms bs rest t) (λ ms bs rest g e. links_end ms bs rest g e)
        (Complete-both (λ b bs. b ∷ bs)
        (Complete-both link cj (Complete-element room c) (joined (suc room)))
        (Complete-links room)
        (λ ns b rest h e. Links-next room ns b rest h e))
        (Complete-nothing [] (Ended test F)))
