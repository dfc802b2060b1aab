use Rattle.sql_lexer.proofs.Printable.{folded_printable}
use Rattle.sql_lexer.proofs.content.word.Goals as goal

pub of_printable-requires : goal.of_printable-requires
of_printable-requires c = rw (c.deref-in-None.ensures.value, c.in_ok-folded.ensures.ok) (folded_printable c.args.bytes.now c.requires)
