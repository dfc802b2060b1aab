use Rattle.std.proofs.Common.{sym, ◌∙◌}
use Rattle.sql_lexer.proofs.Names.{name_found, no_name}
use Rattle.sql_lexer.proofs.name.name_of.Goals as goal

pub returns-in-Text : goal.returns-in-Text
returns-in-Text c =
    name_found c.args.bytes.now (sym c.is_whole_word.ensures ∙ c.if-not-is_whole_word.false) c.in_ok-content.field-0-0 c.in_ok-content.content
    c.in_ok-content.ensures c.in-Text.name c.in-Text.is

pub returns-in_default : goal.returns-in_default
returns-in_default c =
    no_name c.args.bytes.now (sym c.is_whole_word.ensures ∙ c.if-not-is_whole_word.false) c.in_ok-content.field-0-0 c.in_ok-content.content
    c.in_ok-content.ensures c.in_default.not-Text
