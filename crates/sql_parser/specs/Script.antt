-- What a script is, from its tokens and from its bytes.
use Rattle.std.specs.Prelude.{◌≡◌, ℕ, ◌≤◌, ◌<◌, ◌⊎◌, List, length, slice_get, Option, Some, None}
use Rattle.sql_grammar_laws.specs.declared.SyntaxFault.{SyntaxFault}
use Rattle.sql_grammar_laws.specs.declared.SyntaxFault.TheVariants as refusal
use Rattle.sql_grammar_laws.specs.Scripts.{Grammar, IsScript, IsRead, IsFirst}
use Rattle.sql_lexer.specs.declared.token.Token.{Token}
use Rattle.sql_lexer.specs.declared.fault.LexRefusal.TheVariants as lex
use Rattle.sql_lexer.specs.Lexing.{Lexes, Refuses}
use Rattle.sql_ast.specs.declared.statement.Statement.{Statement}
use Rattle.sql_parser.specs.declared.fault.ScriptRefusal.{ScriptRefusal}
use Rattle.sql_parser.specs.declared.fault.ScriptRefusal.TheVariants as script
use Rattle.sql_parser.specs.Grammar.{Ended}

-- The grammar of a script: at most 64 levels, at most 1024 elements in a list or chain.
abbrev pub Sql : Grammar Token Statement
Sql = Ended 1023 64

-- a token list has at most one statement list, also where it passes a limit
abbrev pub OneMeaning : Type 0
OneMeaning = (ts : List Token) (ss us : List Statement) → IsScript Sql ts ss → IsScript Sql ts us
    → ss ≡ us

-- how many bytes a script may have
abbrev pub max_script : ℕ
max_script = 1048576

-- the first byte of a token, or the end where there is no token
abbrev pub start_or : ℕ → Option Token → ℕ
start_or end None = end
start_or end (Some token) = token.start

-- the byte of the token of this number, or the script's length after the last one
abbrev pub byte_at : ℕ → List Token → ℕ → ℕ
byte_at end tokens n = start_or end (slice_get tokens n)

-- The script's bytes are these statements, and no refusal stands in them.
pub record IsReadScript (bytes : List ℕ) (ss : List Statement) : Type 0 where
  pub short : length bytes ≤ max_script
  pub tokens : List Token
  pub lexes : Lexes 0 bytes tokens
  pub read : IsRead Sql tokens ss

-- The script's tokens have this refusal first, at this byte.
pub record IsParseRefusal (r : SyntaxFault) (bytes : List ℕ) (place : ℕ) : Type 0 where
  pub short : length bytes ≤ max_script
  pub tokens : List Token
  pub lexes : Lexes 0 bytes tokens
  pub n : ℕ
  pub first : IsFirst Sql r tokens n
  pub at : place ≡ byte_at (length bytes) tokens n

-- The script's first refusal, and its byte: too long, else the first of its bytes, else the first
-- of its tokens.
abbrev pub IsRefusedScript : ScriptRefusal → List ℕ → ℕ → Type 0
IsRefusedScript script.BadByte bytes place = (length bytes ≤ max_script)
    × Refuses 0 bytes lex.BadByte place
IsRefusedScript script.OpenText bytes place = (length bytes ≤ max_script)
    × Refuses 0 bytes lex.OpenText place
IsRefusedScript script.NumberTooWide bytes place = (length bytes ≤ max_script)
    × Refuses 0 bytes lex.NumberTooWide place
IsRefusedScript script.ScaleTooWide bytes place = (length bytes ≤ max_script)
    × Refuses 0 bytes lex.ScaleTooWide place
IsRefusedScript script.Unexpected bytes place = IsParseRefusal refusal.Unexpected bytes place
IsRefusedScript script.TooDeep bytes place = IsParseRefusal refusal.TooDeep bytes place
IsRefusedScript script.TooLong bytes place = (max_script < length bytes) × (place ≡ max_script)
IsRefusedScript script.TooWide bytes place = IsParseRefusal refusal.TooWide bytes place

-- every token list has a statement list, or a first refusal
abbrev pub SomeMeaning : Type 0
SomeMeaning = (ts : List Token) → ((ss : List Statement) × IsRead Sql ts ss)
    ⊎ ((r : SyntaxFault) × (n : ℕ) × IsFirst Sql r ts n)

-- all bytes are a script, or have a first refusal
abbrev pub SomeScript : Type 0
SomeScript = (bytes : List ℕ) → ((ss : List Statement) × IsReadScript bytes ss)
    ⊎ ((r : ScriptRefusal) × (place : ℕ) × IsRefusedScript r bytes place)

-- a script is read or refused, never both
abbrev pub NeverBoth : Type 0
NeverBoth = (bytes : List ℕ) (ss : List Statement) (r : ScriptRefusal) (place : ℕ)
    → IsReadScript bytes ss → IsRefusedScript r bytes place → ⊥

-- a script has at most one statement list
abbrev pub OneScript : Type 0
OneScript = (bytes : List ℕ) (ss us : List Statement) → IsReadScript bytes ss
    → IsReadScript bytes us → ss ≡ us
