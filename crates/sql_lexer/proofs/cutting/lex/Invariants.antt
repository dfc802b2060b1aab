use Rattle.std.proofs.Common.{◌≡◌, ℕ, ◌+◌, ◌++◌, List, length}
use Rattle.sql_lexer.specs.declared.fault.LexRefusal.{LexRefusal}
use Rattle.sql_lexer.specs.declared.token.Token.{Token}
use Rattle.sql_lexer.specs.Lexing.{Lexes, Refuses}
use Rattle.sql_lexer.proofs.cutting.lex.Given as goal

abbrev pub invariant-cut : goal.invariant-cut
invariant-cut l = record {
  place : l.at + length l.rest ≡ length l.script;
  tokens : (ts : List Token) → Lexes l.at l.rest ts → Lexes 0 l.script (l.found.items ++ ts);
  refused : (r : LexRefusal) (place : ℕ) → Refuses l.at l.rest r place → Refuses 0 l.script r place;
}

abbrev pub decreases-cut : goal.decreases-cut
decreases-cut l = length l.rest
