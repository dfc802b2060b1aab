use Rattle.std.proofs.Common.{◌≡◌}
use Rattle.sql_grammar_laws.specs.Readings.{links}
use Rattle.sql_grammar_laws.proofs.Loop.{with_front}
use Rattle.sql_lexer.specs.Kinds.{is}
use Rattle.sql_lexer.specs.declared.kind.Kind.TheVariants as k
use Rattle.sql_parser_steps.specs.Readings as readings
use Rattle.sql_parser_steps.specs.Readings.{part_at, inner_query}
use Rattle.sql_parser_steps.specs.Values as values
use Rattle.sql_parser.proofs.blocks.Blocks.intersections.Given as goal

abbrev pub invariant-more : goal.invariant-more
invariant-more g l = with_front l.found (links (is k.Intersect) readings.read_intersect_words values.set_part (readings.read_block 1023 l.self.room (part_at 1023 l.self.room) (inner_query 1023 l.self.room)) l.width l.parser) ≡ links (is k.Intersect) readings.read_intersect_words values.set_part (readings.read_block 1023 l.self.room (part_at 1023 l.self.room) (inner_query 1023 l.self.room)) 1023 l.fn.parser

abbrev pub decreases-more : goal.decreases-more
decreases-more g l = l.width
