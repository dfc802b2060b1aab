-- Lines of a grammar with their readings. A line begins with a token of its first kinds, and all of its text is read
-- where none of the kinds that go on with it comes next. Each way to make a line of smaller ones is one law.
use Rattle.std.proofs.Common.{◌≡◌, ℕ, zero, suc, Bool, true, false, not, ◌||◌, ◌&&◌, List, [], ◌∷◌, ◌++◌, ◌⊎◌, Ok, refl, sym, ap, subst, ◌∙◌, inl, inr}
use Rattle.sql_grammar_laws.specs.Marks.{Mark, tokens, plain, opening, element, or_wide}
use Rattle.sql_grammar_laws.specs.Lines.{One, Opens, Empty, Then, Or, Map, Element, Links, none, Never}
use Rattle.sql_grammar_laws.specs.Readings.{Outcome, starts, one, opens, nothing, never, both, mapped, either, links}
use Rattle.sql_grammar_laws.specs.Kinds.{Kinds, among, differs, apart, has, within}
use Rattle.sql_grammar_laws.specs.Laws.{Sound, Sample, Stable, Complete, NonEmpty}
use Rattle.sql_grammar_laws.proofs.Sound.{Sound-one, Sound-opens, Sound-never, Sound-nothing, Sound-mapped, Sound-either, Sound-both}
use Rattle.sql_grammar_laws.proofs.Chains.{Links-out, Sound-links}
use Rattle.sql_grammar_laws.proofs.Stable.{Stable-one, Stable-opens, Stable-fixed, Stable-mapped, Stable-either, Stable-both, Stable-links}
use Rattle.sql_grammar_laws.proofs.Complete.{Begun, Complete-one, Complete-opens, Complete-nothing, Complete-mapped, Complete-either, Complete-both, Complete-full, Complete-links, Complete-narrower}

or_true : (a b : Bool) → a || b ≡ true → (a ≡ true) ⊎ (b ≡ true)
or_true true b h = inl refl
or_true false b h = inr h

or_left : (a b : Bool) → a ≡ true → a || b ≡ true
or_left a b h = rw h refl

or_right : (a b : Bool) → b ≡ true → a || b ≡ true
or_right true b h = refl
or_right false b h = h

and_left : (a b : Bool) → a && b ≡ true → a ≡ true
and_left true b h = refl
and_left false b h = h

and_right : (a b : Bool) → a && b ≡ true → b ≡ true
and_right true b h = h
and_right false b h = absurd (let no : false ≡ true = h in cc)

not_true : (a b : Bool) → not a && b ≡ true → a ≡ true → ⊥
not_true true b h e = let no : false ≡ true = h in cc
not_true false b h e = cc

false_of : (b : Bool) → (b ≡ true → ⊥) → b ≡ false
false_of true h = absurd (h refl)
false_of false h = refl

true_of : (b : Bool) → (b ≡ false → ⊥) → b ≡ true
true_of true h = refl
true_of false h = absurd (h refl)

not_both : (b : Bool) → b ≡ true → b ≡ false → ⊥
not_both b h e = let no : true ≡ false = sym h ∙ e in cc

module _ {T K : Type 0} (c : Kinds T K) where
  -- the token that comes next is of none of these kinds
  abbrev pub EndsBy : List K → List T → Type 0
  EndsBy ks ts = starts (among c ks) ts ≡ false

  -- the first token is of one of these kinds
  pub record Starts (first : List K) (ms : List (Mark T)) : Type 0 where
    pub m : Mark T
    pub ns : List (Mark T)
    pub text : ms ≡ m ∷ ns
    pub is : among c first m.token ≡ true

  pub record Line (P S : Type 0) (first on : List K) {A : Type 0} (G : List (Mark T) → A → Type 0) (p : List T → Outcome T A) : Type 0 where
    pub heads : (ms : List (Mark T)) (a : A) → G ms a → Starts first ms
    pub sample : S → Sample G
    pub sound : S → Sound G p
    pub stable : Stable p
    pub complete : P → Complete G p (EndsBy on)

  -- a part that may be nothing
  pub record Tail (P S : Type 0) (first on : List K) {A : Type 0} (G : List (Mark T) → A → Type 0) (p : List T → Outcome T A) : Type 0 where
    pub heads : (ms : List (Mark T)) (a : A) → G ms a → (ms ≡ []) ⊎ Starts first ms
    pub sample : S → Sample G
    pub sound : S → Sound G p
    pub stable : Stable p
    pub complete : P → Complete G p (EndsBy on)

  differs_no : (ks : List K) (k : K) (t : T) → differs c k ks ≡ true → c.is k t ≡ true → among c ks t ≡ true → ⊥
  differs_no [] k t d h a = cc
  differs_no (j ∷ js) k t d h a = elim (or_true (c.is j t) (among c js t) a) [
    | inl e ↦ not_true (c.same k j) (differs c k js) d (c.one_kind k j t h e)
    | inr e ↦ differs_no js k t (and_right (not (c.same k j)) (differs c k js) d) h e
  ]

  apart_no : (ks js : List K) (t : T) → apart c ks js ≡ true → among c ks t ≡ true → among c js t ≡ true → ⊥
  apart_no [] js t d h a = cc
  apart_no (k ∷ ks) js t d h a = elim (or_true (c.is k t) (among c ks t) h) [
    | inl e ↦ differs_no js k t (and_left (differs c k js) (apart c ks js) d) e a
    | inr e ↦ apart_no ks js t (and_right (differs c k js) (apart c ks js) d) e a
  ]

  -- a token of these kinds is none of those
  pub avoids : (ks js : List K) (t : T) → apart c ks js ≡ true → among c ks t ≡ true → among c js t ≡ false
  avoids ks js t d h = false_of (among c js t) (λ a. apart_no ks js t d h a)

  has_is : (js : List K) (k : K) (t : T) → has c js k ≡ true → c.is k t ≡ true → among c js t ≡ true
  has_is [] k t h e = absurd (let no : false ≡ true = h in cc)
  has_is (j ∷ js) k t h e = elim (or_true (c.same j k) (has c js k) h) [
    | inl s ↦ or_left (c.is j t) (among c js t) (c.alike j k t s e)
    | inr s ↦ or_right (c.is j t) (among c js t) (has_is js k t s e)
  ]

  -- a token of fewer kinds
  pub wider : (ks js : List K) (t : T) → within c ks js ≡ true → among c ks t ≡ true → among c js t ≡ true
  wider [] js t w h = absurd (let no : false ≡ true = h in cc)
  wider (k ∷ ks) js t w h = elim (or_true (c.is k t) (among c ks t) h) [
    | inl e ↦ has_is js k t (and_left (has c js k) (within c ks js) w) e
    | inr e ↦ wider ks js t (and_right (has c js k) (within c ks js) w) e
  ]

  pub ends_fewer : (ks js : List K) (ts : List T) → within c ks js ≡ true → EndsBy js ts → EndsBy ks ts
  ends_fewer ks js [] w e = refl
  ends_fewer ks js (t ∷ ts) w e = false_of (among c ks t) (λ h. not_both (among c js t) (wider ks js t w h) e)

  pub ends_nil : (ts : List T) → EndsBy [] ts
  ends_nil [] = refl
  ends_nil (t ∷ ts) = refl

  -- a text that begins with none of these may come next
  pub ends_head : (first on : List K) (ms : List (Mark T)) (rest : List T) → apart c first on ≡ true → Starts first ms → EndsBy on (tokens ms ++ rest)
  ends_head first on ms rest d s = rw s.text (avoids first on s.m.token d s.is)

  pub starts_is : (test : T → Bool) (first : List K) (ms : List (Mark T)) (rest : List T) → ((t : T) → test t ≡ among c first t) → Starts first ms → starts test (tokens ms ++ rest) ≡ true
  starts_is test first ms rest agree s = rw s.text (agree s.m.token ∙ s.is)

  pub starts_not : (test : T → Bool) (first other : List K) (ms : List (Mark T)) (rest : List T) → ((t : T) → test t ≡ among c first t) → apart c other first ≡ true → Starts other ms → starts test (tokens ms ++ rest) ≡ false
  starts_not test first other ms rest agree d s = rw s.text (agree s.m.token ∙ avoids other first s.m.token d s.is)

  pub starts_none : (test : T → Bool) (first : List K) (ts : List T) → ((t : T) → test t ≡ among c first t) → EndsBy first ts → starts test ts ≡ false
  starts_none test first [] agree e = refl
  starts_none test first (t ∷ ts) agree e = agree t ∙ e

  Starts-append : (first : List K) (ms ns : List (Mark T)) → Starts first ms → Starts first (ms ++ ns)
  Starts-append first ms ns s = record { m = s.m; ns = s.ns ++ ns; text = ap (λ (x : List (Mark T)). x ++ ns) s.text; is = s.is }

  Starts-wider : (first others : List K) (ms : List (Mark T)) → within c first others ≡ true → Starts first ms → Starts others ms
  Starts-wider first others ms w s = record { m = s.m; ns = s.ns; text = s.text; is = wider first others s.m.token w s.is }

  Starts-element : (first : List K) (room : ℕ) (ms : List (Mark T)) → Starts first ms → Starts first (element room ms)
  Starts-element first zero ms s = record { m = (wide_mark s.m s.ns).0; ns = s.ns; text = ap (element 0) s.text ∙ (wide_mark s.m s.ns).1; is = ap (among c first) (wide_mark s.m s.ns).2 ∙ s.is }
    where
      wide_mark : (m : Mark T) (ns : List (Mark T)) → (n : Mark T) × (element 0 (m ∷ ns) ≡ n ∷ ns) × (n.token ≡ m.token)
      wide_mark m ns = (record { token = m.token; passes = or_wide m.passes }, refl, refl)
  Starts-element first (suc room) ms s = s

-- where there is room for one more level
abbrev pub Deeper : ℕ → Type 0
Deeper zero = ⊥
Deeper (suc room) = Unit {0}

pub Sample-then : {T A B C : Type 0} {G : List (Mark T) → A → Type 0} {H : List (Mark T) → B → Type 0} (f : A → B → C) → Sample G → Sample H → Sample (Then f G H)
Sample-then f s t = record { marks = s.marks ++ t.marks; value = f s.value t.value; part = record { front = s.marks; back = t.marks; a = s.value; b = t.value; first = s.part; second = t.part; text = refl; value = refl } }

pub Sample-map : {T A B : Type 0} {G : List (Mark T) → A → Type 0} (f : A → B) → Sample G → Sample (Map f G)
Sample-map f s = record { marks = s.marks; value = f s.value; part = record { a = s.value; part = s.part; value = refl } }

pub Sample-left : {T A : Type 0} {G H : List (Mark T) → A → Type 0} → Sample G → Sample (Or G H)
Sample-left s = record { marks = s.marks; value = s.value; part = inl s.part }

pub Sample-right : {T A : Type 0} {G H : List (Mark T) → A → Type 0} → Sample H → Sample (Or G H)
Sample-right s = record { marks = s.marks; value = s.value; part = inr s.part }

Sample-opens : {T : Type 0} (room : ℕ) (test : T → Bool) → Sample (One test) → Sample (Opens room test)
Sample-opens room test s = record { marks = opening room s.value ∷ []; value = s.value; part = (s.part.0, refl) }

module _ {T K : Type 0} {c : Kinds T K} {P S : Type 0} where
  pub line_one : {first : List K} (test : T → Bool) → ((t : T) → test t ≡ true → among c first t ≡ true) → Sample (One test) → Line c P S first [] (One test) (one test)
  line_one {first} test kinds s = record {
    heads = λ ms t g. record { m = plain t; ns = []; text = g.1; is = kinds t g.0 };
    sample = λ _. s;
    sound = λ _. Sound-one test s;
    stable = Stable-one test;
    complete = λ _. Complete-one test (EndsBy c []);
  }

  pub line_then : {A B C : Type 0} {G : List (Mark T) → A → Type 0} {H : List (Mark T) → B → Type 0} {p : List T → Outcome T A} {q : List T → Outcome T B} {f1 o1 f2 o2 : List K} (f : A → B → C)
      → Line c P S f1 o1 G p → Line c P S f2 o2 H q → apart c f2 o1 ≡ true → Line c P S f1 o2 (Then f G H) (both f p q)
  line_then {f1 = f1} {o1 = o1} {f2 = f2} f g h clear = record {
    heads = λ ms x t. let s : Starts c f1 (t.front ++ t.back) = Starts-append c f1 t.front t.back (g.heads t.front t.a t.first) in subst (Starts c f1) (sym t.text) s;
    sample = λ s. Sample-then f (g.sample s) (h.sample s);
    sound = λ s. Sound-both f (g.sound s) (h.sound s) (h.sample s);
    stable = Stable-both f g.stable h.stable;
    complete = λ p. Complete-both f (g.complete p) (h.complete p) (λ ns b rest n e. ends_head c f2 o1 ns rest clear (h.heads ns b n));
  }

  -- what may come after a part that may be nothing
  next_tail : {A : Type 0} {H : List (Mark T) → A → Type 0} {q : List T → Outcome T A} (f2 o2 o1 on : List K) → Tail c P S f2 o2 H q → apart c f2 o1 ≡ true → within c o1 on ≡ true
      → (ns : List (Mark T)) (b : A) (rest : List T) → H ns b → EndsBy c on rest → EndsBy c o1 (tokens ns ++ rest)
  next_tail f2 o2 o1 on h clear w ns b rest n e = elim (h.heads ns b n) [
    | inl nil ↦ rw nil (ends_fewer c o1 on rest w e)
    | inr s ↦ ends_head c f2 o1 ns rest clear s
  ]

  pub line_then_tail : {A B C : Type 0} {G : List (Mark T) → A → Type 0} {H : List (Mark T) → B → Type 0} {p : List T → Outcome T A} {q : List T → Outcome T B} {f1 o1 f2 o2 on : List K} (f : A → B → C)
      → Line c P S f1 o1 G p → Tail c P S f2 o2 H q → apart c f2 o1 ≡ true → within c o1 on ≡ true → within c o2 on ≡ true → Line c P S f1 on (Then f G H) (both f p q)
  line_then_tail {f1 = f1} {o1 = o1} {f2 = f2} {o2 = o2} {on = on} f g h clear w1 w2 = record {
    heads = λ ms x t. let s : Starts c f1 (t.front ++ t.back) = Starts-append c f1 t.front t.back (g.heads t.front t.a t.first) in subst (Starts c f1) (sym t.text) s;
    sample = λ s. Sample-then f (g.sample s) (h.sample s);
    sound = λ s. Sound-both f (g.sound s) (h.sound s) (h.sample s);
    stable = Stable-both f g.stable h.stable;
    complete = λ p. Complete-both f (g.complete p) (Complete-narrower (λ ms a x. x) (λ ts e. ends_fewer c o2 on ts w2 e) (h.complete p)) (λ ns b rest n e. next_tail f2 o2 o1 on h clear w1 ns b rest n e);
  }

  pub tail_then : {A B C : Type 0} {G : List (Mark T) → A → Type 0} {H : List (Mark T) → B → Type 0} {p : List T → Outcome T A} {q : List T → Outcome T B} {f1 o1 f2 o2 first on : List K} (f : A → B → C)
      → Tail c P S f1 o1 G p → Tail c P S f2 o2 H q → apart c f2 o1 ≡ true → within c o1 on ≡ true → within c o2 on ≡ true → within c f1 first ≡ true → within c f2 first ≡ true → Tail c P S first on (Then f G H) (both f p q)
  tail_then {A} {B} {C} {G} {H} {f1 = f1} {o1 = o1} {f2 = f2} {o2 = o2} {first = first} {on = on} f g h clear w1 w2 v1 v2 = record {
    heads = λ ms x t. heads ms x t;
    sample = λ s. Sample-then f (g.sample s) (h.sample s);
    sound = λ s. Sound-both f (g.sound s) (h.sound s) (h.sample s);
    stable = Stable-both f g.stable h.stable;
    complete = λ p. Complete-both f (g.complete p) (Complete-narrower (λ ms a x. x) (λ ts e. ends_fewer c o2 on ts w2 e) (h.complete p)) (λ ns b rest n e. next_tail f2 o2 o1 on h clear w1 ns b rest n e);
  }
    where
      heads : (ms : List (Mark T)) (x : C) → Then f G H ms x → (ms ≡ []) ⊎ Starts c first ms
      heads ms x t = elim (g.heads t.front t.a t.first) [
        | inl nil ↦ elim (h.heads t.back t.b t.second) [
          | inl nil2 ↦ inl (t.text ∙ ap (λ (y : List (Mark T)). y ++ t.back) nil ∙ nil2)
          | inr s ↦ inr (let e : ms ≡ t.back = t.text ∙ ap (λ (y : List (Mark T)). y ++ t.back) nil in subst (Starts c first) (sym e) (Starts-wider c f2 first t.back v2 s))
        ]
        | inr s ↦ inr (subst (Starts c first) (sym t.text) (Starts-append c first t.front t.back (Starts-wider c f1 first t.front v1 s)))
      ]

  pub line_map : {A B : Type 0} {G : List (Mark T) → A → Type 0} {p : List T → Outcome T A} {first on : List K} (f : A → B) → Line c P S first on G p → Line c P S first on (Map f G) (mapped f p)
  line_map f g = record {
    heads = λ ms b x. g.heads ms x.a x.part;
    sample = λ s. Sample-map f (g.sample s);
    sound = λ s. Sound-mapped f (g.sound s);
    stable = Stable-mapped f g.stable;
    complete = λ p. Complete-mapped f (g.complete p);
  }

  pub tail_empty : {A : Type 0} (a : A) → Tail c P S [] [] (Empty a) (nothing a)
  tail_empty a = record {
    heads = λ ms b g. inl g.0;
    sample = λ _. record { marks = []; value = a; part = (refl, refl) };
    sound = λ _. Sound-nothing a;
    stable = Stable-fixed (Ok a);
    complete = λ _. Complete-nothing a (EndsBy c []);
  }

  pub line_or : {A : Type 0} {G H : List (Mark T) → A → Type 0} {p q : List T → Outcome T A} {f1 o1 f2 o2 first on : List K} (test : T → Bool) → ((t : T) → test t ≡ among c f1 t)
      → Line c P S f1 o1 G p → Line c P S f2 o2 H q → apart c f2 f1 ≡ true → within c o1 on ≡ true → within c o2 on ≡ true → within c f1 first ≡ true → within c f2 first ≡ true → Line c P S first on (Or G H) (either test p q)
  line_or {A} {G} {H} {f1 = f1} {o1 = o1} {f2 = f2} {o2 = o2} {first = first} {on = on} test agree g h clear w1 w2 v1 v2 = record {
    heads = λ ms a x. heads ms a x;
    sample = λ s. Sample-right (h.sample s);
    sound = λ s. Sound-either test (g.sound s) (h.sound s);
    stable = Stable-either test g.stable h.stable;
    complete = λ p. Complete-either test (λ ms a rest x e. starts_is c test f1 ms rest agree (g.heads ms a x)) (λ ms a rest x e. starts_not c test f1 f2 ms rest agree clear (h.heads ms a x))
        (Complete-narrower (λ ms a x. x) (λ ts e. ends_fewer c o1 on ts w1 e) (g.complete p)) (Complete-narrower (λ ms a x. x) (λ ts e. ends_fewer c o2 on ts w2 e) (h.complete p));
  }
    where
      heads : (ms : List (Mark T)) (a : A) → Or G H ms a → Starts c first ms
      heads ms a (inl x) = Starts-wider c f1 first ms v1 (g.heads ms a x)
      heads ms a (inr x) = Starts-wider c f2 first ms v2 (h.heads ms a x)

  pub tail_or : {A : Type 0} {G H : List (Mark T) → A → Type 0} {p q : List T → Outcome T A} {f1 o1 f2 o2 first on : List K} (test : T → Bool) → ((t : T) → test t ≡ among c f1 t)
      → Line c P S f1 o1 G p → Tail c P S f2 o2 H q → apart c f2 f1 ≡ true → within c f1 on ≡ true → within c o1 on ≡ true → within c o2 on ≡ true → within c f1 first ≡ true → within c f2 first ≡ true → Tail c P S first on (Or G H) (either test p q)
  tail_or {A} {G} {H} {f1 = f1} {o1 = o1} {f2 = f2} {o2 = o2} {first = first} {on = on} test agree g h clear w0 w1 w2 v1 v2 = record {
    heads = λ ms a x. heads ms a x;
    sample = λ s. Sample-right (h.sample s);
    sound = λ s. Sound-either test (g.sound s) (h.sound s);
    stable = Stable-either test g.stable h.stable;
    complete = λ p. Complete-either test (λ ms a rest x e. starts_is c test f1 ms rest agree (g.heads ms a x)) (λ ms a rest x e. not_it ms a rest x e)
        (Complete-narrower (λ ms a x. x) (λ ts e. ends_fewer c o1 on ts w1 e) (g.complete p)) (Complete-narrower (λ ms a x. x) (λ ts e. ends_fewer c o2 on ts w2 e) (h.complete p));
  }
    where
      heads : (ms : List (Mark T)) (a : A) → Or G H ms a → (ms ≡ []) ⊎ Starts c first ms
      heads ms a (inl x) = inr (Starts-wider c f1 first ms v1 (g.heads ms a x))
      heads ms a (inr x) = elim (h.heads ms a x) [ inl nil ↦ inl nil | inr s ↦ inr (Starts-wider c f2 first ms v2 s) ]

      not_it : (ms : List (Mark T)) (a : A) (rest : List T) → H ms a → EndsBy c on rest → starts test (tokens ms ++ rest) ≡ false
      not_it ms a rest x e = elim (h.heads ms a x) [
        | inl nil ↦ rw nil (starts_none c test f1 rest agree (ends_fewer c f1 on rest w0 e))
        | inr s ↦ starts_not c test f1 f2 ms rest agree clear s
      ]

  -- a token that opens a level, and what stands inside
  pub line_opens : {B C : Type 0} {H : List (Mark T) → B → Type 0} {q : List T → Outcome T B} {first on : List K} (room : ℕ) (k : K) (f : T → B → C)
      → Line c (Deeper room) S first on H q → Line c P S (k ∷ []) on (Then f (Opens room (c.is k)) H) (both f (opens room (c.is k)) q)
  line_opens {B} {C} {H} {q} {first} {on} room k f h = record {
    heads = λ ms x t. heads room ms x t;
    sample = λ s. Sample-then f (Sample-opens room (c.is k) one_token) (h.sample s);
    sound = λ s. Sound-both f (Sound-opens room (c.is k) one_token) (h.sound s) (h.sample s);
    stable = Stable-both f (Stable-opens room (c.is k)) h.stable;
    complete = λ _. complete room h.complete;
  }
    where
      one_token : Sample (One (c.is k))
      one_token = record { marks = plain (c.token k) ∷ []; value = c.token k; part = (c.token_is k, refl) }

      heads : (n : ℕ) (ms : List (Mark T)) (x : C) → Then f (Opens n (c.is k)) H ms x → Starts c (k ∷ []) ms
      heads zero ms x t = record { m = opening 0 t.a; ns = t.back; text = t.text ∙ ap (λ (y : List (Mark T)). y ++ t.back) t.first.1; is = or_left (c.is k t.a) false t.first.0 }
      heads (suc n) ms x t = record { m = plain t.a; ns = t.back; text = t.text ∙ ap (λ (y : List (Mark T)). y ++ t.back) t.first.1; is = or_left (c.is k t.a) false t.first.0 }

      complete : (n : ℕ) → (Deeper n → Complete H q (EndsBy c on)) → Complete (Then f (Opens n (c.is k)) H) (both f (opens n (c.is k)) q) (EndsBy c on)
      complete zero d = Complete-full f (c.is k) q
      complete (suc n) d = Complete-both f (Complete-opens (suc n) (c.is k) (λ _. Unit {0})) (d tt) (λ ns b rest x e. tt)

  pub line_never : {A : Type 0} {G : List (Mark T) → A → Type 0} {first on : List K} → (P → ⊥) → ((ms : List (Mark T)) (a : A) → G ms a → Starts c first ms) → (S → Sample G) → Line c P S first on G never
  line_never empty heads sample = record {
    heads = heads;
    sample = sample;
    sound = λ s. Sound-never (sample s);
    stable = Stable-fixed _;
    complete = λ p. absurd (empty p);
  }

  -- ---- lists and chains

  pub line_nonempty : {A : Type 0} {G : List (Mark T) → A → Type 0} {p : List T → Outcome T A} {first on : List K} → Line c P S first on G p → NonEmpty G
  line_nonempty {first = first} g = record { never = λ a x. let s = g.heads [] a x in let e : [] ≡ s.m ∷ s.ns = s.text in cc }

  element_heads : {A : Type 0} {G : List (Mark T) → A → Type 0} {p : List T → Outcome T A} (first on : List K) → Line c P S first on G p → (room : ℕ) (ms : List (Mark T)) (a : A) → Element room G ms a → Starts c first ms
  element_heads first on g room ms a x = subst (Starts c first) (sym x.text) (Starts-element c first room x.inner (g.heads x.inner a x.part))

  -- elements after what joins them
  pub tail_links : {A B D : Type 0} {J : List (Mark T) → D → Type 0} {G : List (Mark T) → A → Type 0} {join : List T → Outcome T D} {p : List T → Outcome T A} {f1 o1 f2 o2 on : List K} (width : ℕ) (test : T → Bool) (link : D → A → B)
      → ((t : T) → test t ≡ among c f1 t) → Line c P S f1 o1 J join → Line c P S f2 o2 G p → apart c f2 o1 ≡ true → apart c f1 o2 ≡ true → within c f1 on ≡ true → within c o2 on ≡ true → Tail c P S f1 on (Links J link G width) (links test join link p width)
  tail_links {A} {B} {D} {J} {G} {join} {p} {f1} {o1} {f2} {o2} {on} width test link agree j g clear goes w1 w2 = record {
    heads = λ ms bs x. elim (Links-out J link G width ms bs x) [ inl t ↦ inr (subst (Starts c f1) (sym t.text) (Starts-append c f1 t.front t.back (link_heads width t.front t.a t.first))) | inr e ↦ inl e.0 ];
    sample = λ _. record { marks = []; value = []; part = none };
    sound = λ s. Sound-links test J join link G p (j.sound s) (g.sound s) (line_nonempty g) (g.sample s) width;
    stable = Stable-links test join link p j.stable g.stable width;
    complete = λ x. Complete-narrower (λ ms a y. y) (λ ts e. (starts_none c test f1 ts agree (ends_fewer c f1 on ts w1 e), ends_fewer c o2 on ts w2 e))
        (Complete-links test J join link G p (EndsBy c o1) (EndsBy c o2) (j.complete x) (g.complete x) (line_nonempty g) begun (λ room ns a rest y e. ends_head c f2 o1 ns rest clear (element_heads f2 o2 g room ns a y)) goes_on width);
  }
    where
      link_heads : (room : ℕ) (ms : List (Mark T)) (b : B) → Then link J (Element room G) ms b → Starts c f1 ms
      link_heads room ms b t = subst (Starts c f1) (sym t.text) (Starts-append c f1 t.front t.back (j.heads t.front t.a t.first))

      begun : (room : ℕ) → Begun test (Then link J (Element room G))
      begun room = record { at = λ ms b t. let s = link_heads room ms b t in (s.m, s.ns, s.text, agree s.m.token ∙ s.is) }

      goes_on : (t : T) (ts : List T) → test t ≡ true → EndsBy c o2 (t ∷ ts)
      goes_on t ts h = avoids c f1 o2 t goes (sym (agree t) ∙ h)

  -- elements with nothing between them
  pub tail_repeats : {A B : Type 0} {G : List (Mark T) → A → Type 0} {p : List T → Outcome T A} {f2 o2 on : List K} (width : ℕ) (test : T → Bool) (link : Unit {0} → A → B)
      → ((t : T) → test t ≡ among c f2 t) → Line c P S f2 o2 G p → apart c f2 o2 ≡ true → within c f2 on ≡ true → within c o2 on ≡ true → Tail c P S f2 on (Links (Empty tt) link G width) (links test (nothing tt) link p width)
  tail_repeats {A} {B} {G} {p} {f2} {o2} {on} width test link agree g goes w1 w2 = record {
    heads = λ ms bs x. elim (Links-out (Empty tt) link G width ms bs x) [ inl t ↦ inr (subst (Starts c f2) (sym t.text) (Starts-append c f2 t.front t.back (link_heads width t.front t.a t.first))) | inr e ↦ inl e.0 ];
    sample = λ _. record { marks = []; value = []; part = none };
    sound = λ s. Sound-links test (Empty tt) (nothing tt) link G p (Sound-nothing tt) (g.sound s) (line_nonempty g) (g.sample s) width;
    stable = Stable-links test (nothing tt) link p (Stable-fixed (Ok tt)) g.stable width;
    complete = λ x. Complete-narrower (λ ms a y. y) (λ ts e. (starts_none c test f2 ts agree (ends_fewer c f2 on ts w1 e), ends_fewer c o2 on ts w2 e))
        (Complete-links test (Empty tt) (nothing tt) link G p (λ _. Unit {0}) (EndsBy c o2) (Complete-nothing tt (λ _. Unit {0})) (g.complete x) (line_nonempty g) begun (λ room ns a rest y e. tt) goes_on width);
  }
    where
      link_heads : (room : ℕ) (ms : List (Mark T)) (b : B) → Then link (Empty tt) (Element room G) ms b → Starts c f2 ms
      link_heads room ms b t =
          let e : ms ≡ t.back = t.text ∙ ap (λ (y : List (Mark T)). y ++ t.back) t.first.0 in
          subst (Starts c f2) (sym e) (element_heads f2 o2 g room t.back t.b t.second)

      begun : (room : ℕ) → Begun test (Then link (Empty tt) (Element room G))
      begun room = record { at = λ ms b t. let s = link_heads room ms b t in (s.m, s.ns, s.text, agree s.m.token ∙ s.is) }

      goes_on : (t : T) (ts : List T) → test t ≡ true → EndsBy c o2 (t ∷ ts)
      goes_on t ts h = avoids c f2 o2 t goes (sym (agree t) ∙ h)

pub is_among : {T K : Type 0} (c : Kinds T K) (k : K) (t : T) → c.is k t ≡ among c (k ∷ []) t
is_among c k t = by (c.is k t)
  where
    by : (b : Bool) → b ≡ b || false
    by true = refl
    by false = refl

module _ {T K : Type 0} (c : Kinds T K) {P S : Type 0} where
  -- one token of this kind
  pub line_kind : (k : K) → Line c P S (k ∷ []) [] (One (c.is k)) (one (c.is k))
  line_kind k = line_one (c.is k) (λ t h. or_left (c.is k t) false h) (record { marks = plain (c.token k) ∷ []; value = c.token k; part = (c.token_is k, refl) })

-- what is nothing at all is read rightly by anything
pub line_nothing : {T K : Type 0} {c : Kinds T K} {P : Type 0} {A : Type 0} {p : List T → Outcome T A} {first on : List K} → Stable p → Line c P ⊥ first on Never p
line_nothing s = record {
  heads = λ ms a g. absurd g;
  sample = λ x. absurd x;
  sound = λ x. absurd x;
  stable = s;
  complete = λ x. record { at = λ ms a rest g e. absurd g };
}
