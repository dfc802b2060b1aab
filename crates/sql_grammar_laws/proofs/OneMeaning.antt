-- A token list has at most one statement list, whether it passes a limit or not: with larger limits it is read.
use Rattle.std.proofs.Common.{◌≡◌, ℕ, ◌+◌, ◌≤◌, List, [], ◌∷◌, ◌++◌, length, Option, Some, None, Ok, refl, sym, ap, ◌∙◌, arith}
use Rattle.std.proofs.lemmas.List.{length-append}
use Rattle.sql_grammar_laws.specs.Marks.{Mark, Limit, tokens}
use Rattle.sql_grammar_laws.specs.Readings.{Outcome}
use Rattle.sql_grammar_laws.specs.Scripts.{Script, IsScript, statements}
use Rattle.sql_grammar_laws.specs.Laws.{passing, verdict, IsReadBy}
use Rattle.sql_grammar_laws.specs.Lifting.{AllPlain, Lifted, Lifts}
use Rattle.sql_grammar_laws.proofs.Sound.{tokens-append}
use Rattle.sql_grammar_laws.proofs.Stable.{out}
use Rattle.sql_grammar_laws.proofs.Lift.{plain-append}
use Rattle.sql_grammar_laws.proofs.Verdict.{reads_script}

verdict-plain : {T A : Type 0} (ms : List (Mark T)) (rest : List T) (o : Outcome T A) → AllPlain ms → verdict ms rest o ≡ o
verdict-plain [] rest o p = refl
verdict-plain {T} {A} (m ∷ ms) rest o p = by m.passes p.0 (verdict-plain ms rest o p.1)
  where
    by : (q : Option Limit) → q ≡ None → verdict ms rest o ≡ o → passing q (m.token ∷ (tokens ms ++ rest)) (verdict ms rest o) ≡ o
    by None e f = f
    by (Some l) e f = absurd (let no_limit : Some l ≡ None = e in cc)

module _ {T S : Type 0} (G H : ℕ → List (Mark T) → S → Type 0) (read : List T → Outcome T S) (law : IsReadBy H read) (n : ℕ) (lifts : (h : ℕ) → Lifts n (G h) (H h)) where
  script_lifts : (h : ℕ) (ss : List S) (ms : List (Mark T)) → Script G h ss ms → length (tokens ms) ≤ n → Lifted (λ ns xs. Script H h xs ns) ms ss
  script_lifts h [] ms g le = record { marks = []; part = refl; text = sym (ap tokens g); free = tt }
  script_lifts h (s ∷ ss) ms g le =
      let whole : tokens ms ≡ tokens g.front ++ tokens g.back = ap tokens g.text ∙ tokens-append g.front g.back in
      let len : length (tokens g.front) + length (tokens g.back) ≤ n = omega (arith, le, ap length whole, length-append (tokens g.front) (tokens g.back)) in
      let x = (lifts h).at g.front g.a g.first (omega arith) in
      let y = script_lifts h ss g.back g.second (omega arith) in
      record {
        marks = x.marks ++ y.marks;
        part = record { front = x.marks; back = y.marks; a = g.a; b = tt; first = x.part; second = y.part; text = refl; value = g.value };
        text = tokens-append x.marks y.marks ∙ ap (λ (z : List T). z ++ tokens y.marks) x.text ∙ ap (λ (z : List T). tokens g.front ++ z) y.text ∙ sym whole;
        free = plain-append x.marks y.marks x.free y.free;
      }

  reads : (ts : List T) (ss : List S) → length ts ≤ n → IsScript G ts ss → statements read n ts ≡ out (Ok ss) []
  reads ts ss le s =
      let m = s.spells in
      let l = script_lifts m.height ss s.marks m.script (omega (arith, ap length m.text)) in
      ap (statements read n) (sym (l.text ∙ m.text)) ∙ reads_script H read law m.height n l.marks ss l.part (omega (arith, ap length (l.text ∙ m.text))) ∙ verdict-plain l.marks [] (out (Ok ss) []) l.free

  pub one_meaning : (ts : List T) (ss us : List S) → length ts ≤ n → IsScript G ts ss → IsScript G ts us → ss ≡ us
  one_meaning ts ss us le s t =
      let same : Ok ss ≡ Ok us = ap (λ (o : Outcome T (List S)). o.0) (sym (reads ts ss le s) ∙ reads ts us le t) in
      cc
