-- The kinds of tokens, as the laws of grammars ask for them.
use Rattle.sql_grammar_laws.specs.Kinds.{Kinds}
use Rattle.sql_lexer.specs.declared.kind.Kind.{Kind}
use Rattle.sql_lexer.specs.declared.token.Token.{Token}
use Rattle.sql_lexer.specs.Kinds.{is, same}
use Rattle.sql_lexer.proofs.OneKind.{one_kind, alike, token_of, token_is}

-- Tokens have one kind each, and each kind has a token.
abbrev pub kinds : Kinds Token Kind
kinds = record {
  is = is;
  same = same;
  one_kind = one_kind;
  alike = alike;
  token = token_of;
  token_is = token_is;
}
