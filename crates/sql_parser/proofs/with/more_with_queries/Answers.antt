use Rattle.std.proofs.Common.{◌∙◌, sym, subst, List, arith}
use Rattle.std.proofs.lemmas.Result.{err_from_is_err_and}
use Rattle.sql_grammar_laws.specs.Readings.{one, Reads, crowded, is_err}
use Rattle.sql_grammar_laws.proofs.Loop.{loop_ends, loop_goes_on, full_reads, fails_reads}
use Rattle.sql_lexer.specs.Kinds.{is}
use Rattle.sql_lexer.specs.declared.kind.Kind.TheVariants as k
use Rattle.sql_lexer.specs.declared.token.Token.{Token}
use Rattle.sql_ast.specs.declared.statement.WithQuery.{WithQuery}
use Rattle.sql_parser_steps.specs.Readings as readings
use Rattle.sql_parser_steps.specs.Readings.{inner_query}
use Rattle.sql_parser_steps.specs.Values as values
use Rattle.sql_parser.proofs.with.more_with_queries.Goals as goal

pub returns-then-width-eq0 : goal.returns-then-width-eq0
returns-then-width-eq0 c =
    let crowds : List Token → Type 0 = λ x. Reads (crowded x ((readings.read_with_query 1023 c.args.room (inner_query 1023 c.args.room)) c.one.new.self)) (is_err {A = WithQuery} c.one_too_many.result) c.one_too_many.new.self in
    full_reads (is k.Comma) (one (is k.Comma)) values.second (readings.read_with_query 1023 c.args.room (inner_query 1023 c.args.room)) _ c.more.found c.more.width c.more.parser c.more.invariant (sym c.starts.ensures ∙ c.more-test.true) (omega arith) _ _ c.in_ok-one.ensures _ _ (subst crowds c.rest-here.ensures (c.one_too_many.ensures _ c.with_query-element.ensures))

pub returns : goal.returns
returns c = loop_ends (is k.Comma) (one (is k.Comma)) values.second (readings.read_with_query 1023 c.args.room (inner_query 1023 c.args.room)) _ c.more.found c.more.width c.more.parser c.more.invariant (sym c.starts.ensures ∙ c.more-test.false)

pub more-preserved : goal.more-preserved
more-preserved c = rw c.in_ok-push-2.ensures.ok (loop_goes_on (is k.Comma) (one (is k.Comma)) values.second (readings.read_with_query 1023 c.args.room (inner_query 1023 c.args.room)) _ c.more.found c.more.width c.more.parser c.more.invariant (sym c.starts.ensures ∙ c.more-test.true) (omega arith) _ _ c.in_ok-one.ensures _ _ c.in_ok-element.ensures)

pub returns-in_err-element : goal.returns-in_err-element
returns-in_err-element c =
    let p = err_from_is_err_and c.from_residual-in_err-element.result c.from_residual-in_err-element.ensures.1 in
    rw (p.1, p.2) (fails_reads (is k.Comma) (one (is k.Comma)) values.second (readings.read_with_query 1023 c.args.room (inner_query 1023 c.args.room)) _ c.more.found c.more.width c.more.parser c.more.invariant (sym c.starts.ensures ∙ c.more-test.true) (omega arith) _ _ c.in_ok-one.ensures _ _ c.in_err-element.ensures)
