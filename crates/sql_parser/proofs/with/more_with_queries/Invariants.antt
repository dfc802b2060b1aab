use Rattle.std.proofs.Common.{◌≡◌, ◌∷◌}
use Rattle.sql_grammar_laws.specs.Readings.{links, mapped, one}
use Rattle.sql_grammar_laws.proofs.Loop.{with_front}
use Rattle.sql_lexer.specs.Kinds.{is}
use Rattle.sql_lexer.specs.declared.kind.Kind.TheVariants as k
use Rattle.sql_parser_steps.specs.Readings as readings
use Rattle.sql_parser_steps.specs.Readings.{inner_query}
use Rattle.sql_parser_steps.specs.Values as values
use Rattle.sql_parser.proofs.with.more_with_queries.Given as goal

abbrev pub invariant-more : goal.invariant-more
invariant-more l = with_front l.found (links (is k.Comma) (one (is k.Comma)) values.second (readings.read_with_query 1023 l.fn.room (inner_query 1023 l.fn.room)) l.width l.parser) ≡ mapped (λ xs. l.fn.first ∷ xs) (links (is k.Comma) (one (is k.Comma)) values.second (readings.read_with_query 1023 l.fn.room (inner_query 1023 l.fn.room)) 1023) l.fn.parser

abbrev pub decreases-more : goal.decreases-more
decreases-more l = l.width
