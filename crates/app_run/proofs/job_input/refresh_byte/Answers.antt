use Rattle.std.proofs.Common.{◌≡◌, ◌∙◌, Err, ap}
use Rattle.app_run.proofs.job_input.refresh_byte.Goals as goal

pub unreachable-requires : goal.unreachable-requires
unreachable-requires c =
    let r = c.in-Err-Refused.field-0-0 in
    let place = c.in-Err-Refused.field-0-1 in
    c.one_answer.ensures.never 0 c.args.bytes.now c.requires.1.tokens r place c.requires.1.lexes
    (c.lex.ensures.refused r place (c.in-Err-Refused.is ∙ ap Err c.in-Err-Refused.field-0-is))
