use Rattle.std.proofs.Common.{◌≡◌, ◌-◌, ◌∙◌, ℕ, List, Result, sym, subst, Err, ap, length, arith}
use Rattle.std.proofs.lemmas.List.{length-append}
use Rattle.sql_grammar_laws.specs.declared.SyntaxFault.{SyntaxFault}
use Rattle.sql_grammar_laws.specs.Scripts.{IsFirst, statements}
use Rattle.sql_grammar_laws.proofs.Stable.{out}
use Rattle.sql_grammar_laws.proofs.Scripts.{Stable-script}
use Rattle.sql_grammar_laws.proofs.Verdict.{read_is, refusal_is_first}
use Rattle.sql_ast.specs.declared.statement.Statement.{Statement}
use Rattle.sql_lexer.specs.declared.token.Token.{Token}
use Rattle.sql_parser.specs.Grammar.{Ended}
use Rattle.sql_parser_steps.specs.Readings.{ended_at}
use Rattle.sql_parser.specs.Script.{Sql}
use Rattle.sql_parser.proofs.Levels.{is_read}
use Rattle.sql_parser.proofs.scripts.parse_script.Goals as goal

-- what the parser's tokens gave, the given ones give
of_given : (ts us rest : List Token) (r : Result (List Statement) SyntaxFault) → us ≡ ts → statements (ended_at 1023 64) (length us) us ≡ out r rest → statements (ended_at 1023 64) (length ts) ts ≡ out r rest
of_given ts us rest r same e = subst (λ (x : List Token). statements (ended_at 1023 64) (length x) x ≡ out r rest) same e

pub overflow_sub-result : goal.overflow_sub-result
overflow_sub-result c =
    let read : statements (ended_at 1023 64) (length c.new-parser.result) c.new-parser.result ≡ out (Err c.in-Err-Refused.refusal) c.script.new.parser = rw c.in-Err-Refused.field-0-is at c.in-Err-Refused.ensures in
    let e = of_given c.args.tokens.now c.new-parser.result c.script.new.parser _ c.new-parser.ensures read in
    let f = (Stable-script (Ended 1023 64) (ended_at 1023 64) (is_read 1023 64) (length c.args.tokens.now)).ends c.args.tokens.now _ _ e in
    omega (arith, ap length f.1, length-append f.0 c.script.new.parser, ap length c.rest.ensures)

pub returns-in-Ok-clause-read : goal.returns-in-Ok-clause-read
returns-in-Ok-clause-read c = read_is (Ended 1023 64) (ended_at 1023 64) (is_read 1023 64) c.args.tokens.now _ _ (of_given c.args.tokens.now c.new-parser.result c.script.new.parser _ c.new-parser.ensures c.in-Ok.ensures)

pub returns-in-Err-Refused-clause-refused : goal.returns-in-Err-Refused-clause-refused
returns-in-Err-Refused-clause-refused c = λ r n h.
    let read : statements (ended_at 1023 64) (length c.new-parser.result) c.new-parser.result ≡ out (Err c.in-Err-Refused.refusal) c.script.new.parser = rw c.in-Err-Refused.field-0-is at c.in-Err-Refused.ensures in
    let e = of_given c.args.tokens.now c.new-parser.result c.script.new.parser _ c.new-parser.ensures read in
    let first = refusal_is_first (Ended 1023 64) (ended_at 1023 64) (is_read 1023 64) c.args.tokens.now _ _ e in
    let kind : c.in-Err-Refused.refusal ≡ r = cc in
    let rest_is : length c.args.tokens.now - length c.rest.result.now ≡ n = cc in
    let place : length c.args.tokens.now - length c.script.new.parser ≡ n = ap (λ (x : List Token). length c.args.tokens.now - length x) (sym c.rest.ensures) ∙ rest_is in
    subst (λ (m : ℕ). IsFirst Sql r c.args.tokens.now m) place (subst (λ (q : SyntaxFault). IsFirst Sql q c.args.tokens.now (length c.args.tokens.now - length c.script.new.parser)) kind first)
