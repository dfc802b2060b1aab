use Rattle.std.proofs.Common.{sym, drop, false}
use Rattle.sql_lexer.proofs.Printable.{unquoted_printable, drop_printable}
use Rattle.sql_lexer.proofs.content.text.Goals as goal

pub of_printable-requires : goal.of_printable-requires
of_printable-requires c =
    rw (c.deref.ensures.value, c.in_ok-content-in-None.ensures, c.after.ensures) (unquoted_printable false (drop 1 c.args.bytes.now) (drop_printable c.args.bytes.now (sym c.in-None.ensures.value)))
