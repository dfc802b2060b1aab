use Rattle.std.proofs.Common.{◌≡◌, ◌∙◌, drop, take, Ok, true, refl, sym, ap}
use Rattle.std.proofs.lemmas.Result.{err_from_is_err_and}
use Rattle.sql_lexer.specs.declared.fault.LexFault.TheVariants as faults
use Rattle.sql_lexer.specs.Forms.{made}
use Rattle.sql_lexer.specs.Lexing.{glued}
use Rattle.sql_lexer.proofs.OneAnswer.{fault_refuses, first_refuses, glued_refuses, err_is}
use Rattle.sql_lexer.proofs.cutting.next_token.Goals as goal

pub returns-in_err-kind-in-Some-clause-refused : goal.returns-in_err-kind-in-Some-clause-refused
returns-in_err-kind-in-Some-clause-refused c = λ r place e.
    let p = err_from_is_err_and c.from_residual.result c.from_residual.ensures.1 in
    let fault : p.0 ≡ faults.Refused r place = err_is c.from_residual.result p.0 (faults.Refused r place) p.1 e in
    fault_refuses c.args.at c.args.bytes.now c.before-in-Some.result.now c.in-Some.form c.in-Some.len c.requires.no_gap c.in-Some.ensures.found c.before-in-Some.ensures _ p.0 r place p.2 c.in_err-kind-in-Some.ensures fault

pub returns-then-is_glued-clause-refused : goal.returns-then-is_glued-clause-refused
returns-then-is_glued-clause-refused c = λ r place e.
    let n = c.in-Some.len in
    let is : glued c.in-Some.form (drop n c.args.bytes.now) ≡ true = ap (glued c.in-Some.form) (sym c.after.ensures) ∙ sym c.is_glued.ensures ∙ c.if-is_glued.true in
    let makes : made c.in-Some.form (take n c.args.bytes.now) ≡ Ok (c.in_ok-kind-in-Some.kind, c.in_ok-kind-in-Some.content) = ap (made c.in-Some.form) (sym c.before-in-Some.ensures) ∙ c.in_ok-kind-in-Some.ensures in
    glued_refuses c.args.at c.args.bytes.now c.in-Some.form n c.in_ok-kind-in-Some.kind c.in_ok-kind-in-Some.content c.requires.no_gap c.in-Some.ensures.found makes is r place (err_is _ _ _ refl e)

pub returns-in-None-clause-refused : goal.returns-in-None-clause-refused
returns-in-None-clause-refused c = λ r place e.
    first_refuses c.args.at c.args.bytes.now c.requires.some c.requires.no_gap c.in-None.ensures.none c.refusal_at.result r place c.refusal_at.ensures (err_is _ _ _ refl e)
