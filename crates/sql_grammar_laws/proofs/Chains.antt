-- Lists and chains, of any length, and their elements that are one too many.
use Rattle.std.proofs.Common.{◌≡◌, ℕ, zero, suc, Bool, true, false, cond, eqb, List, [], ◌∷◌, ◌++◌, length, Ok, Err, refl, sym, ap, subst, ◌∙◌, append_assoc, arith, inl, inr}
use Rattle.std.proofs.lemmas.List.{length-append}
use Rattle.std.proofs.lemmas.Bool.{eqb-true}
use Rattle.std.proofs.lemmas.Bool.Decides.{nat_tests}
use Rattle.sql_grammar_laws.specs.declared.fault.SyntaxFault.{SyntaxFault}
use Rattle.sql_grammar_laws.specs.declared.fault.SyntaxFault.TheVariants.{TooWide}
use Rattle.sql_grammar_laws.specs.Marks.{Mark, tokens, element}
use Rattle.sql_grammar_laws.specs.Lines.{Empty, Then, Or, less, Element, Links, none, more}
use Rattle.sql_grammar_laws.specs.Readings.{Outcome, crowded, crowd, links}
use Rattle.sql_grammar_laws.proofs.Sound.{Sound-wider, Sound-nothing, Sound-either, Sound-both}
use Rattle.sql_grammar_laws.specs.Laws.{shown, IsThere, Begins, Stops, Meets, Sound, Sample, NonEmpty}

eqb_differ : (m n : ℕ) → eqb m n ≡ false → m ≡ n → ⊥
eqb_differ m n e same = grind (arith, nat_tests)

module _ {T : Type 0} where
  pub tokens-element : (room : ℕ) (ms : List (Mark T)) → tokens (element room ms) ≡ tokens ms
  tokens-element zero [] = refl
  tokens-element zero (m ∷ ms) = refl
  tokens-element (suc room) ms = refl

  -- a chain, one link more
  abbrev pub Linked : {A B D : Type 0} → (List (Mark T) → D → Type 0) → (D → A → B) → (List (Mark T) → A → Type 0) → ℕ → List (Mark T) → List B → Type 0
  Linked J link G room ms bs = Or (Then (λ b bs. b ∷ bs) (Then link J (Element room G)) (Links J link G (less room))) (Empty []) ms bs

  pub Links-in : {A B D : Type 0} (J : List (Mark T) → D → Type 0) (link : D → A → B) (G : List (Mark T) → A → Type 0) (room : ℕ) (ms : List (Mark T)) (bs : List B) → Linked J link G room ms bs → Links J link G room ms bs
  Links-in {A} {B} J link G room ms bs (inr e) =
      let P : List (Mark T) × List B → Type 0 = λ p. Links J link G room p.0 p.1 in
      let both_are : ([], []) ≡ (ms, bs) = cc in
      subst P both_are none
  Links-in {A} {B} J link G room ms bs (inl t) =
      let inner = t.first.second.inner in
      let one : Links J link G room (t.first.front ++ (element room inner ++ t.back)) (link t.first.a t.first.b ∷ t.b) = more t.first.front inner t.back t.first.a t.first.b t.b t.first.first t.first.second.part t.second in
      let front_is : t.front ≡ t.first.front ++ element room inner = t.first.text ∙ ap (λ (x : List (Mark T)). t.first.front ++ x) t.first.second.text in
      let ms_is : t.first.front ++ (element room inner ++ t.back) ≡ ms = sym (t.text ∙ ap (λ (x : List (Mark T)). x ++ t.back) front_is ∙ append_assoc t.first.front (element room inner) t.back) in
      let bs_is : link t.first.a t.first.b ∷ t.b ≡ bs = sym (t.value ∙ ap (λ (x : B). x ∷ t.b) t.first.value) in
      subst (λ (y : List B). Links J link G room ms y) bs_is (subst (λ (x : List (Mark T)). Links J link G room x (link t.first.a t.first.b ∷ t.b)) ms_is one)

  pub Links-out : {A B D : Type 0} (J : List (Mark T) → D → Type 0) (link : D → A → B) (G : List (Mark T) → A → Type 0) (room : ℕ) (ms : List (Mark T)) (bs : List B) → Links J link G room ms bs → Linked J link G room ms bs
  Links-out J link G room ms bs none = inr (refl, refl)
  Links-out J link G room ms bs (more js inner ns d a rest e g others) = inl (record {
    front = js ++ element room inner;
    back = ns;
    a = link d a;
    b = rest;
    first = record { front = js; back = element room inner; a = d; b = a; first = e; second = record { inner = inner; part = g; text = refl }; text = refl; value = refl };
    second = others;
    text = sym (append_assoc js (element room inner) ns);
    value = refl;
  })

  module _ {A : Type 0} (G : List (Mark T) → A → Type 0) (p : List T → Outcome T A) (s : Sound G p) (ne : NonEmpty G) where
    -- what begins an element begins one that is one too many
    crowd_first : (ts : List T) (r : SyntaxFault) (us : List T) → Stops G ts r us → length us ≡ length ts → Stops (Element 0 G) ts r ts
    crowd_first ts r us m len =
        let nil : m.front ≡ [] = nil_of m.front us (ap length (sym m.text) ∙ sym len) in
        let same : ts ≡ us = m.text ∙ ap (λ (x : List T). x ++ us) nil in
        record {
          front = [];
          text = refl;
          there = subst (IsThere r) (sym same) m.there;
          begins = record {
            tail = m.begins.tail;
            marks = element 0 m.begins.marks;
            value = m.begins.value;
            part = record { inner = m.begins.marks; part = m.begins.part; text = refl };
            text = tokens-element 0 m.begins.marks ∙ m.begins.text ∙ ap (λ (x : List T). (x ++ shown r us) ++ m.begins.tail) nil ∙ ap (λ (x : List T). shown r x ++ m.begins.tail) (sym same);
          };
        }
      where
        nil_of : (front us : List T) → length (front ++ us) ≡ length us → front ≡ []
        nil_of [] us e = refl
        nil_of (x ∷ front) us e = absurd (omega (arith, e, length-append front us))

    -- a token that begins an element, and what follows it in one
    wide_at : (t : T) (us : List T) → Begins G (t ∷ []) → Stops (Element 0 G) (t ∷ us) TooWide (t ∷ us)
    wide_at t us b = record {
      front = [];
      text = refl;
      there = tt;
      begins = record {
        tail = b.tail;
        marks = element 0 b.marks;
        value = b.value;
        part = record { inner = b.marks; part = b.part; text = refl };
        text = tokens-element 0 b.marks ∙ b.text;
      };
    }

    crowd_later : (ts : List T) (r : SyntaxFault) (us front : List T) → ts ≡ front ++ us → Begins G (front ++ shown r us) → (length us ≡ length ts → ⊥) → Stops (Element 0 G) ts TooWide ts
    crowd_later ts r us [] e b ne' = absurd (ne' (ap length (sym e)))
    crowd_later ts r us (t ∷ front) e b ne' =
        let P : List T → Type 0 = λ x. Stops (Element 0 G) x TooWide x in
        subst P (sym e) (wide_at t (front ++ us) (record { tail = (front ++ shown r us) ++ b.tail; marks = b.marks; value = b.value; part = b.part; text = b.text }))

    crowd_taken : (ts : List T) (a : A) (us : List T) (ms : List (Mark T)) → G ms a → ts ≡ tokens ms ++ us → Stops (Element 0 G) ts TooWide ts
    crowd_taken ts a us [] g e = absurd (ne.never a g)
    crowd_taken ts a us (m ∷ ms) g e =
        let P : List T → Type 0 = λ x. Stops (Element 0 G) x TooWide x in
        subst P (sym e) (wide_at m.token (tokens ms ++ us) (record { tail = tokens ms; marks = m ∷ ms; value = a; part = g; text = refl }))

    crowd_choose : (ts : List T) (r : SyntaxFault) (us : List T) → Stops G ts r us → (b : Bool) → eqb (length us) (length ts) ≡ b → Meets (Element 0 G) ts (cond b (Err r, ts) (Err TooWide, ts))
    crowd_choose ts r us m true e = crowd_first ts r us m (eqb-true _ _ e)
    crowd_choose ts r us m false e = crowd_later ts r us m.front m.text m.begins (λ same. eqb_differ (length us) (length ts) e same)

    crowd_by : (ts : List T) (o : Outcome T A) → Meets G ts o → Meets (Element 0 G) ts (crowded ts o)
    crowd_by ts (Ok a, us) m = crowd_taken ts a us m.marks m.part m.text
    crowd_by ts (Err r, us) m = crowd_choose ts r us m (eqb (length us) (length ts)) refl

    pub Sound-crowd : Sound (Element 0 G) (crowd p)
    Sound-crowd = record { at = λ ts. crowd_by ts (p ts) (s.at ts) }

  pub Sound-element : {A : Type 0} {G : List (Mark T) → A → Type 0} {p : List T → Outcome T A} (room : ℕ) → Sound G p → Sound (Element (suc room) G) p
  Sound-element room s = Sound-wider (λ ms a g. record { inner = ms; part = g; text = refl }) s

  Sample-links : {A B D : Type 0} (J : List (Mark T) → D → Type 0) (link : D → A → B) (G : List (Mark T) → A → Type 0) (room : ℕ) → Sample (Links J link G room)
  Sample-links J link G room = record { marks = []; value = []; part = none }

  Sample-element : {A : Type 0} {G : List (Mark T) → A → Type 0} (room : ℕ) → Sample G → Sample (Element room G)
  Sample-element room s = record { marks = element room s.marks; value = s.value; part = record { inner = s.marks; part = s.part; text = refl } }

  pub Sound-links : {A B D : Type 0} (test : T → Bool) (J : List (Mark T) → D → Type 0) (join : List T → Outcome T D) (link : D → A → B) (G : List (Mark T) → A → Type 0) (p : List T → Outcome T A)
      → Sound J join → Sound G p → NonEmpty G → Sample G → (room : ℕ) → Sound (Links J link G room) (links test join link p room)
  unfolding links
  Sound-links test J join link G p j s ne sample zero =
      Sound-wider (Links-in J link G 0)
      (Sound-either test
      (Sound-both (λ b bs. b ∷ bs) (Sound-both link j (Sound-crowd G p s ne) (Sample-element 0 sample)) (Sound-wider (λ ms bs e. Links-in J link G 0 ms bs (inr e)) (Sound-nothing [])) (Sample-links J link G 0))
      (Sound-nothing []))
  Sound-links test J join link G p j s ne sample (suc room) =
      Sound-wider (Links-in J link G (suc room))
      (Sound-either test
      (Sound-both (λ b bs. b ∷ bs) (Sound-both link j (Sound-element room s) (Sample-element (suc room) sample)) (Sound-links test J join link G p j s ne sample room) (Sample-links J link G room))
      (Sound-nothing []))
