use Rattle.std.proofs.Common.{◌≡◌, ◌∙◌, ◌++◌, ◌<◌, [], List, length, ℕ, sym, subst, true, eqb, arith}
use Rattle.std.proofs.lemmas.Bool.{eqb-true}
use Rattle.std.proofs.lemmas.List.{length-drop, append-nil, nil_from_length}
use Rattle.sql_lexer.specs.declared.token.Token.{Token}
use Rattle.sql_lexer.specs.Lexing.{Lexes, done, gap_len}
use Rattle.sql_lexer.proofs.OneAnswer.{tokens_gap, refuses_gap, tokens_more, refuses_more, in_order}
use Rattle.sql_lexer.proofs.cutting.lex.Goals as goal

pub cut-preserved-then-gap-gt0 : goal.cut-preserved-then-gap-gt0
cut-preserved-then-gap-gt0 c =
    let rest = c.cut.rest.now in
    let some : 0 < gap_len rest = omega (arith, c.gap_len-gap.ensures.value) in
    record {
      place = rw (c.after-rest.ensures) (omega (arith, length-drop c.gap_len-gap.result rest, c.cut.invariant.place, c.gap_len-gap.ensures.within));
      tokens = rw (c.after-rest.ensures, c.gap_len-gap.ensures.value) (tokens_gap c.cut.found.items c.cut.at rest some c.cut.invariant.tokens);
      refused = rw (c.after-rest.ensures, c.gap_len-gap.ensures.value) (refuses_gap c.cut.at rest some c.cut.invariant.refused);
    }

pub cut-preserved : goal.cut-preserved
cut-preserved c =
    let rest = c.cut.rest.now in
    let t = c.in_ok-token.token in
    let none : gap_len rest ≡ 0 = omega (arith, c.gap_len-gap.ensures.value, c.if-gap-gt0.false) in
    let cuts = c.in_ok-token.ensures.token in
    record {
      place = rw (c.after-rest-in-cut.ensures) (omega (arith, length-drop t.len rest, c.cut.invariant.place, cuts.longest.front.within));
      tokens = rw (c.after-rest-in-cut.ensures, c.in_ok-push.ensures.items) (tokens_more c.cut.found.items c.cut.at rest t none cuts c.cut.invariant.tokens);
      refused = rw (c.after-rest-in-cut.ensures) (refuses_more c.cut.at rest t none cuts c.cut.invariant.refused);
    }

ended : (script rest : List ℕ) (found : List Token) (at : ℕ) → eqb (length rest) 0 ≡ true → ((ts : List Token) → Lexes at rest ts → Lexes 0 script (found ++ ts)) → Lexes 0 script found
ended script rest found at h f =
    let none : rest ≡ [] = nil_from_length rest (eqb-true _ _ h) in
    let l : Lexes at rest [] = (let P : List ℕ → Type 0 = λ x. Lexes at x [] in subst P (sym none) done) in
    let P : List Token → Type 0 = λ x. Lexes 0 script x in
    subst P (append-nil found) (f [] l)

pub returns-clause-tokens : goal.returns-clause-tokens
returns-clause-tokens c = ended c.args.script.now c.cut.rest.now c.cut.found.items c.cut.at (sym c.is_empty.ensures ∙ c.cut-test.false) c.cut.invariant.tokens

pub returns-clause-order : goal.returns-clause-order
returns-clause-order c =
    in_order 0 c.args.script.now c.cut.found.items (length c.args.script.now) (ended c.args.script.now c.cut.rest.now c.cut.found.items c.cut.at (sym c.is_empty.ensures ∙ c.cut-test.false) c.cut.invariant.tokens) (omega arith)
