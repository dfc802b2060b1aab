use Rattle.std.proofs.Common.{◌∙◌, Err, ap}
use Rattle.sql_parser.proofs.Whole.{read_or_refused}
use Rattle.app_sessions.proofs.expansion.statements_of.Goals as goal

pub unreachable-requires : goal.unreachable-requires
unreachable-requires c =
    let (statements, read) = c.requires in
    read_or_refused c.args.text.now statements c.in-Err-Refused.field-0-0 c.in-Err-Refused.field-0-1 read
    (c.read_script.ensures.refused c.in-Err-Refused.field-0-0 c.in-Err-Refused.field-0-1 (c.in-Err-Refused.is ∙ ap Err c.in-Err-Refused.field-0-is))
