use Rattle.std.proofs.Common.{◌≡◌, ◌+◌, false, drop}
use Rattle.std.specs.Option.{option_map}
use Rattle.sql_lexer.specs.Fronts as fronts
use Rattle.sql_lexer.proofs.front.text_len.Given as goal

abbrev pub invariant-bytes : goal.invariant-bytes
invariant-bytes l = record {
  place : l.at ≡ l.b-index;
  so_far : fronts.text_len false l.bytes ≡ option_map (λ n. n + l.at) (fronts.text_len l.seen (drop l.b-index l.bytes));
}
