-- What is read is in the grammar, and what was read before a refusal begins something that is.
use Rattle.std.proofs.Common.{◌≡◌, ℕ, zero, suc, Bool, true, false, cond, List, [], ◌∷◌, ◌++◌, Ok, Err, refl, sym, ap, ◌∙◌, append_assoc, inl, inr}
use Rattle.sql_grammar_laws.specs.declared.fault.SyntaxFault.TheVariants.{Unexpected}
use Rattle.sql_grammar_laws.specs.Marks.{Mark, tokens, plain, opening}
use Rattle.sql_grammar_laws.specs.Lines.{One, Opens, Empty, Then, Or, Map}
use Rattle.sql_grammar_laws.specs.Readings.{Outcome, and_then, starts, one, allow, opens, nothing, never, both, mapped, either}
use Rattle.sql_grammar_laws.specs.Laws.{shown, Takes, Stops, Meets, Sound, Sample}

module _ {T : Type 0} where
  pub tokens-append : (ms ns : List (Mark T)) → tokens (ms ++ ns) ≡ tokens ms ++ tokens ns
  tokens-append [] ns = refl
  tokens-append (m ∷ ms) ns = ap (λ (ts : List T). m.token ∷ ts) (tokens-append ms ns)

  -- ---- from smaller parts

  pub Sound-wider : {A : Type 0} {G H : List (Mark T) → A → Type 0} {p : List T → Outcome T A} → ((ms : List (Mark T)) (a : A) → G ms a → H ms a) → Sound G p → Sound H p
  Sound-wider {A} {G} {H} {p} f s = record { at = λ ts. wider ts (p ts) (s.at ts) }
    where
      wider : (ts : List T) (o : Outcome T A) → Meets G ts o → Meets H ts o
      wider ts (Ok a, rest) m = record { marks = m.marks; part = f _ _ m.part; text = m.text }
      wider ts (Err r, rest) m = record { front = m.front; text = m.text; there = m.there; begins = record { tail = m.begins.tail; marks = m.begins.marks; value = m.begins.value; part = f _ _ m.begins.part; text = m.begins.text } }

  pub Sound-one : (test : T → Bool) → Sample (One test) → Sound (One test) (one test)
  Sound-one test s = record { at = at }
    where
      unexpected : (ts : List T) → Stops (One test) ts Unexpected ts
      unexpected ts = record { front = []; text = refl; there = tt; begins = record { tail = tokens s.marks; marks = s.marks; value = s.value; part = s.part; text = refl } }

      choose : (t : T) (ts : List T) (b : Bool) → test t ≡ b → Meets (One test) (t ∷ ts) (cond b (Ok t, ts) (Err Unexpected, t ∷ ts))
      choose t ts true e = record { marks = plain t ∷ []; part = (e, refl); text = refl }
      choose t ts false e = unexpected (t ∷ ts)

      at : (ts : List T) → Meets (One test) ts (one test ts)
      at [] = unexpected []
      at (t ∷ ts) = choose t ts (test t) refl

  pub Sound-opens : (room : ℕ) (test : T → Bool) → Sample (One test) → Sound (Opens room test) (opens room test)
  Sound-opens room test s = record { at = at }
    where
      unexpected : (ts : List T) → Stops (Opens room test) ts Unexpected ts
      unexpected ts = record { front = []; text = refl; there = tt; begins = record { tail = s.value ∷ []; marks = opening room s.value ∷ []; value = s.value; part = (s.part.0, refl); text = token_of room s.value } }
        where
          token_of : (n : ℕ) (t : T) → tokens (opening n t ∷ []) ≡ t ∷ []
          token_of zero t = refl
          token_of (suc n) t = refl

      allowed : (n : ℕ) (t : T) (ts : List T) → test t ≡ true → Meets (Opens n test) (t ∷ ts) (allow n t ts)
      allowed zero t ts e = record { front = []; text = refl; there = tt; begins = record { tail = []; marks = opening zero t ∷ []; value = t; part = (e, refl); text = refl } }
      allowed (suc n) t ts e = record { marks = plain t ∷ []; part = (e, refl); text = refl }

      choose : (t : T) (ts : List T) (b : Bool) → test t ≡ b → Meets (Opens room test) (t ∷ ts) (cond b (allow room t ts) (Err Unexpected, t ∷ ts))
      choose t ts true e = allowed room t ts e
      choose t ts false e = unexpected (t ∷ ts)

      at : (ts : List T) → Meets (Opens room test) ts (opens room test ts)
      at [] = unexpected []
      at (t ∷ ts) = choose t ts (test t) refl

  pub Sound-never : {A : Type 0} {G : List (Mark T) → A → Type 0} → Sample G → Sound G never
  Sound-never s = record { at = λ ts. record { front = []; text = refl; there = tt; begins = record { tail = tokens s.marks; marks = s.marks; value = s.value; part = s.part; text = refl } } }

  pub Sound-nothing : {A : Type 0} (a : A) → Sound (Empty {T = T} a) (nothing a)
  Sound-nothing a = record { at = λ ts. record { marks = []; part = (refl, refl); text = refl } }

  pub Sound-mapped : {A B : Type 0} {G : List (Mark T) → A → Type 0} {p : List T → Outcome T A} (f : A → B) → Sound G p → Sound (Map f G) (mapped f p)
  Sound-mapped {A} {B} {G} {p} f s = record { at = λ ts. by ts (p ts) (s.at ts) }
    where
      by : (ts : List T) (o : Outcome T A) → Meets G ts o → Meets (Map f G) ts (and_then o (λ a us. (Ok (f a), us)))
      by ts (Ok a, us) m = record { marks = m.marks; part = record { a = a; part = m.part; value = refl }; text = m.text }
      by ts (Err r, us) m = record { front = m.front; text = m.text; there = m.there; begins = record { tail = m.begins.tail; marks = m.begins.marks; value = f m.begins.value; part = record { a = m.begins.value; part = m.begins.part; value = refl }; text = m.begins.text } }

  pub Sound-either : {A : Type 0} {G H : List (Mark T) → A → Type 0} {p q : List T → Outcome T A} (test : T → Bool) → Sound G p → Sound H q → Sound (Or G H) (either test p q)
  Sound-either {A} {G} {H} {p} {q} test s t = record { at = λ ts. by ts (starts test ts) }
    where
      l : Sound (Or G H) p
      l = Sound-wider (λ ms a. inl) s

      r : Sound (Or G H) q
      r = Sound-wider (λ ms a. inr) t

      by : (ts : List T) (b : Bool) → Meets (Or G H) ts (cond b (p ts) (q ts))
      by ts true = l.at ts
      by ts false = r.at ts

  pub Sound-both : {A B C : Type 0} {G : List (Mark T) → A → Type 0} {H : List (Mark T) → B → Type 0} {p : List T → Outcome T A} {q : List T → Outcome T B} (f : A → B → C)
      → Sound G p → Sound H q → Sample H → Sound (Then f G H) (both f p q)
  Sound-both {A} {B} {C} {G} {H} {p} {q} f s t sample = record { at = λ ts. first ts (p ts) (s.at ts) }
    where
      second : (ts us : List T) (a : A) (o : Outcome T B) → Takes G ts a us → Meets H us o → Meets (Then f G H) ts (and_then o (λ b vs. (Ok (f a b), vs)))
      second ts us a (Ok b, vs) m n = record {
        marks = m.marks ++ n.marks;
        part = record { front = m.marks; back = n.marks; a = a; b = b; first = m.part; second = n.part; text = refl; value = refl };
        text = m.text ∙ ap (λ (x : List T). tokens m.marks ++ x) n.text ∙ sym (append_assoc (tokens m.marks) (tokens n.marks) vs) ∙ ap (λ (x : List T). x ++ vs) (sym (tokens-append m.marks n.marks));
      }
      second ts us a (Err r, vs) m n = record {
        front = tokens m.marks ++ n.front;
        there = n.there;
        text = m.text ∙ ap (λ (x : List T). tokens m.marks ++ x) n.text ∙ sym (append_assoc (tokens m.marks) n.front vs);
        begins = record {
          tail = n.begins.tail;
          marks = m.marks ++ n.begins.marks;
          value = f a n.begins.value;
          part = record { front = m.marks; back = n.begins.marks; a = a; b = n.begins.value; first = m.part; second = n.begins.part; text = refl; value = refl };
          text = tokens-append m.marks n.begins.marks ∙ ap (λ (x : List T). tokens m.marks ++ x) n.begins.text ∙ simp append_assoc;
        };
      }

      first : (ts : List T) (o : Outcome T A) → Meets G ts o → Meets (Then f G H) ts (and_then o (λ a us. and_then (q us) (λ b vs. (Ok (f a b), vs))))
      first ts (Ok a, us) m = second ts us a (q us) m (t.at us)
      first ts (Err r, us) m = record {
        front = m.front;
        there = m.there;
        text = m.text;
        begins = record {
          tail = m.begins.tail ++ tokens sample.marks;
          marks = m.begins.marks ++ sample.marks;
          value = f m.begins.value sample.value;
          part = record { front = m.begins.marks; back = sample.marks; a = m.begins.value; b = sample.value; first = m.begins.part; second = sample.part; text = refl; value = refl };
          text = tokens-append m.begins.marks sample.marks ∙ ap (λ (x : List T). x ++ tokens sample.marks) m.begins.text ∙ append_assoc (m.front ++ shown r us) m.begins.tail (tokens sample.marks);
        };
      }
