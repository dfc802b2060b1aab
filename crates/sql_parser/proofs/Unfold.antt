-- One level, from the level further in.
use Rattle.std.proofs.Common.{◌≡◌, ℕ, zero, suc, List, refl}
use Rattle.sql_lexer.specs.declared.token.Token.{Token}
use Rattle.sql_parser_steps.specs.ExpressionReadings.{read_unary_line, read_part_line}
use Rattle.sql_parser_steps.specs.Readings.{read_query_line, unary_at, part_at, query_at, inner_unary, inner_part, inner_query}

pub unary_is : (room : ℕ) (ts : List Token) → unary_at 1023 room ts ≡ read_unary_line 1023 room (inner_unary 1023 room) (inner_part 1023 room) (inner_query 1023 room) ts
unfolding unary_at
unary_is zero ts = refl
unary_is (suc room) ts = refl

pub part_is : (room : ℕ) (ts : List Token) → part_at 1023 room ts ≡ read_part_line 1023 room (unary_at 1023 room) (inner_part 1023 room) (inner_query 1023 room) ts
unfolding unary_at
part_is zero ts = refl
part_is (suc room) ts = refl

pub query_is : (room : ℕ) (ts : List Token) → query_at 1023 room ts ≡ read_query_line 1023 room (part_at 1023 room) (inner_query 1023 room) ts
unfolding unary_at
query_is zero ts = refl
query_is (suc room) ts = refl
