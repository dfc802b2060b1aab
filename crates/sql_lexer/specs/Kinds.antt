-- Kinds told apart.
use Rattle.std.specs.Prelude.{Bool}
use denote.Enum.Bare.{sameb}
use Rattle.sql_lexer.specs.contracts.kind.Kind.{the_type}
use Rattle.sql_lexer.specs.declared.kind.Kind.{Kind}
use Rattle.sql_lexer.specs.declared.token.Token.{Token}

-- the kinds are equal
abbrev pub same : Kind → Kind → Bool
same j k = sameb the_type j k

-- the token is of this kind
unfoldable pub is : Kind → Token → Bool
is k t = sameb the_type t.kind k
