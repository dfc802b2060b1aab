use Rattle.std.proofs.lemmas.Result.{err_from_is_err_and}
use Rattle.sql_lexer.specs.declared.kind.Kind.TheVariants as k
use Rattle.sql_parser_steps.specs.ExpressionReadings.{read_substring, read_substring_inside}
use Rattle.sql_parser.proofs.Parentheses.{call_fails}
use Rattle.sql_parser.proofs.calls.Calls.substring.Goals as goal

pub returns-in_err-one-2 : goal.returns-in_err-one-2
unfolding read_substring
returns-in_err-one-2 g c =
    let p = err_from_is_err_and c.from_residual-in_err-one-2.result c.from_residual-in_err-one-2.ensures.1 in
    rw (p.1, p.2) (call_fails c.args.self.now.room k.Substring (read_substring_inside 1023) _ _ _ _ _ _ _ _ c.in_ok-one.ensures c.in_ok-opens.ensures c.in_ok-inner.ensures _ c.in_err-one-2.ensures)
