use Rattle.std.proofs.Common.{◌≡◌, ◌∙◌, ◌≤◌, List, length, Err, refl, sym, ap, arith}
use Rattle.sql_lexer.specs.declared.token.Token.{Token}
use Rattle.sql_lexer.specs.Lexing.{Lexes}
use Rattle.sql_parser.specs.Script.{byte_at, max_script}
use Rattle.sql_parser.proofs.Whole.{parser_refused, err_is}
use Rattle.sql_parser.proofs.scripts.read_script.Goals as goal

pub returns-clause-refused : goal.returns-clause-refused
returns-clause-refused c = λ r place e.
    let bytes = c.args.script.now in
    let ts = c.deref.result.now in
    let arm = c.in-Err-Refused-parse_script in
    let lexes : Lexes 0 bytes ts = rw c.deref.ensures.value c.in-Ok.ensures.tokens in
    let first = arm.ensures.refused arm.refusal arm.n (ap (λ x. Err x) arm.field-0-is) in
    let same : c.deref-in-Err-Refused-parse_script.result.now ≡ ts = c.deref-in-Err-Refused-parse_script.ensures.value ∙ sym c.deref.ensures.value in
    let at : c.byte_of-place.result ≡ byte_at (length bytes) ts arm.n = c.byte_of-place.ensures ∙ ap (λ (x : List Token). byte_at (length bytes) x arm.n) same in
    let short : length bytes ≤ max_script = omega arith in
    parser_refused bytes short ts lexes arm.refusal arm.n first c.byte_of-place.result at c.of_parser.result c.of_parser.ensures r place (err_is _ _ _ refl e)
