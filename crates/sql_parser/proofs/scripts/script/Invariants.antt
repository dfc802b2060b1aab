use Rattle.std.proofs.Common.{◌≡◌, length}
use Rattle.sql_grammar_laws.specs.Scripts.{statements}
use Rattle.sql_grammar_laws.proofs.Scripts.{with_statements}
use Rattle.sql_parser.specs.Grammar.{Ended}
use Rattle.sql_parser_steps.specs.Readings.{ended_at}
use Rattle.sql_parser.proofs.Levels.{is_read}
use Rattle.sql_parser.proofs.scripts.script.Given as goal

abbrev pub invariant-more : goal.invariant-more
invariant-more l = with_statements (Ended 1023 64) (ended_at 1023 64) (is_read 1023 64) l.found (statements (ended_at 1023 64) (length l.parser) l.parser) ≡ statements (ended_at 1023 64) (length l.fn.parser) l.fn.parser

abbrev pub decreases-more : goal.decreases-more
decreases-more l = length l.parser
