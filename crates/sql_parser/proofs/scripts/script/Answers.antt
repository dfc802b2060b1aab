use Rattle.std.proofs.Common.{◌≡◌, ◌∙◌, sym, [], ◌∷◌, true, false, List, eqb, length}
use Rattle.std.proofs.lemmas.Result.{err_from_is_err_and}
use Rattle.std.proofs.lemmas.Bool.{eqb-true}
use Rattle.std.proofs.lemmas.List.{nil_from_length}
use Rattle.sql_grammar_laws.proofs.Scripts.{script_goes_on, script_fails, script_ends, Ended-shorter}
use Rattle.sql_lexer.specs.declared.token.Token.{Token}
use Rattle.sql_parser.specs.Grammar.{Ended}
use Rattle.sql_parser_steps.specs.Readings.{ended_at}
use Rattle.sql_parser.proofs.Levels.{is_read}
use Rattle.sql_parser.proofs.scripts.script.Goals as goal

some_left : (ts : List Token) → eqb (length ts) 0 ≡ false → ts ≡ [] → ⊥
some_left [] h e = cc
some_left (t ∷ ts) h e = cc

none_left : (ts : List Token) → eqb (length ts) 0 ≡ true → ts ≡ []
none_left ts h = nil_from_length ts (eqb-true _ _ h)

pub more-smaller : goal.more-smaller
more-smaller c = Ended-shorter (Ended 1023 64) (ended_at 1023 64) (is_read 1023 64) c.more.parser c.ended_statement.new.parser c.in_ok-ended_statement.field-0 c.in_ok-ended_statement.ensures

pub more-preserved : goal.more-preserved
more-preserved c = rw c.in_ok-push.ensures.ok (script_goes_on (Ended 1023 64) (ended_at 1023 64) (is_read 1023 64) _ c.more.found c.more.parser c.more.invariant (some_left c.more.parser (sym c.is_done.ensures ∙ c.more-test.true)) _ _ c.in_ok-ended_statement.ensures)

pub returns-in_err-ended_statement : goal.returns-in_err-ended_statement
returns-in_err-ended_statement c =
    let p = err_from_is_err_and c.from_residual.result c.from_residual.ensures.1 in
    rw (p.1, p.2) (script_fails (Ended 1023 64) (ended_at 1023 64) (is_read 1023 64) _ c.more.found c.more.parser c.more.invariant (some_left c.more.parser (sym c.is_done.ensures ∙ c.more-test.true)) _ _ c.in_err-ended_statement.ensures)

pub returns : goal.returns
returns c = script_ends (Ended 1023 64) (ended_at 1023 64) (is_read 1023 64) _ c.more.found c.more.parser c.more.invariant (none_left c.more.parser (sym c.is_done.ensures ∙ c.more-test.false))
