-- Scripts from their bytes: one statement list, or one refusal.
use Rattle.std.proofs.Common.{◌≡◌, ℕ, ◌<◌, ◌≤◌, List, length, Result, Err, sym, subst, ◌∙◌, arith}
use Rattle.sql_grammar_laws.specs.declared.SyntaxFault.{SyntaxFault}
use Rattle.sql_grammar_laws.specs.Scripts.{IsScript, IsRead, IsFirst}
use Rattle.sql_lexer.specs.declared.token.Token.{Token}
use Rattle.sql_lexer.specs.declared.fault.LexRefusal.{LexRefusal}
use Rattle.sql_lexer.specs.declared.fault.LexRefusal.TheVariants as lex
use Rattle.sql_lexer.specs.Lexing.{Lexes, Refuses}
use Rattle.sql_lexer.proofs.OneAnswer.{one_tokens, never_both}
use Rattle.sql_ast.specs.declared.statement.Statement.{Statement}
use Rattle.sql_parser.specs.declared.fault.ScriptRefusal.{ScriptRefusal}
use Rattle.sql_parser.specs.declared.fault.ScriptRefusal.TheVariants as script
use Rattle.sql_grammar_laws.specs.declared.SyntaxFault.TheVariants as refusal
use Rattle.sql_parser.specs.declared.fault.ScriptFault.{ScriptFault}
use Rattle.sql_parser.specs.declared.fault.ScriptFault.TheVariants as faults
use Rattle.sql_parser.specs.Faults.{of_lexer, of_parser}
use Rattle.sql_parser.specs.Script.{Sql, IsReadScript, IsParseRefusal, IsRefusedScript, max_script, byte_at}
use Rattle.sql_parser.proofs.Levels.{only_one}

pub tokens_once : (ts : List Token) (ss us : List Statement) → IsScript Sql ts ss → IsScript Sql ts us → ss ≡ us
tokens_once ts ss us s t = only_one 1023 64 ts ss us s t

pub bytes_once : (bytes : List ℕ) (ss us : List Statement) → IsReadScript bytes ss → IsReadScript bytes us → ss ≡ us
bytes_once bytes ss us s t =
    let same : t.tokens ≡ s.tokens = one_tokens 0 bytes t.tokens s.tokens t.lexes s.lexes in
    let P : List Token → Type 0 = λ x. IsScript Sql x us in
    tokens_once s.tokens ss us s.read.is (subst P same t.read.is)

no_lexer : (bytes : List ℕ) (ss : List Statement) (r : LexRefusal) (place : ℕ) → IsReadScript bytes ss → Refuses 0 bytes r place → ⊥
no_lexer bytes ss r place s h = never_both 0 bytes s.tokens r place s.lexes h

no_parser : (bytes : List ℕ) (ss : List Statement) (r : SyntaxFault) (place : ℕ) → IsReadScript bytes ss → IsParseRefusal r bytes place → ⊥
no_parser bytes ss r place s h =
    let same : h.tokens ≡ s.tokens = one_tokens 0 bytes h.tokens s.tokens h.lexes s.lexes in
    let P : List Token → Type 0 = λ x. IsFirst Sql r x h.n in
    let first : IsFirst Sql r s.tokens h.n = subst P same h.first in
    s.read.none r h.n first.stands

pub read_or_refused : (bytes : List ℕ) (ss : List Statement) (r : ScriptRefusal) (place : ℕ) → IsReadScript bytes ss → IsRefusedScript r bytes place → ⊥
read_or_refused bytes ss script.BadByte place s h = no_lexer bytes ss lex.BadByte place s h.1
read_or_refused bytes ss script.OpenText place s h = no_lexer bytes ss lex.OpenText place s h.1
read_or_refused bytes ss script.NumberTooWide place s h = no_lexer bytes ss lex.NumberTooWide place s h.1
read_or_refused bytes ss script.ScaleTooWide place s h = no_lexer bytes ss lex.ScaleTooWide place s h.1
read_or_refused bytes ss script.Unexpected place s h = no_parser bytes ss _ place s h
read_or_refused bytes ss script.TooDeep place s h = no_parser bytes ss _ place s h
read_or_refused bytes ss script.TooLong place s h = omega (arith, h.0, s.short)
read_or_refused bytes ss script.TooWide place s h = no_parser bytes ss _ place s h

-- ---- what a call answers

pub err_is : {A E : Type 0} (r : Result A E) (e f : E) → r ≡ Err e → r ≡ Err f → e ≡ f
err_is r e f g h = let same = sym g ∙ h in cc

too_long : (bytes : List ℕ) → max_script < length bytes → (r : ScriptRefusal) (place : ℕ) → faults.Refused script.TooLong max_script ≡ faults.Refused r place → IsRefusedScript r bytes place
too_long bytes lt r place e =
    let kinds : script.TooLong ≡ r = cc in
    let places : max_script ≡ place = cc in
    let P : ScriptRefusal → Type 0 = λ x. IsRefusedScript x bytes place in
    subst P kinds (lt, sym places)

pub long_refused : (bytes : List ℕ) → max_script < length bytes → (result : Result (List Statement) ScriptFault) → result ≡ Err (faults.Refused script.TooLong max_script) → (r : ScriptRefusal) (place : ℕ) → result ≡ Err (faults.Refused r place) → IsRefusedScript r bytes place
long_refused bytes lt result is r place e = too_long bytes lt r place (err_is result _ _ is e)

pub lexer_kind : (bytes : List ℕ) → length bytes ≤ max_script → (q : LexRefusal) (p : ℕ) → Refuses 0 bytes q p → IsRefusedScript (of_lexer q) bytes p
lexer_kind bytes le lex.BadByte p h = (le, h)
lexer_kind bytes le lex.OpenText p h = (le, h)
lexer_kind bytes le lex.NumberTooWide p h = (le, h)
lexer_kind bytes le lex.ScaleTooWide p h = (le, h)

pub parser_kind : (bytes : List ℕ) (q : SyntaxFault) (p : ℕ) → IsParseRefusal q bytes p → IsRefusedScript (of_parser q) bytes p
parser_kind bytes refusal.Unexpected p h = h
parser_kind bytes refusal.TooDeep p h = h
parser_kind bytes refusal.TooWide p h = h

-- the refusal that is answered is the one that stands
moved : (bytes : List ℕ) (s : ScriptRefusal) (p : ℕ) → IsRefusedScript s bytes p → (r : ScriptRefusal) (place : ℕ) → faults.Refused s p ≡ faults.Refused r place → IsRefusedScript r bytes place
moved bytes s p h r place e =
    let kinds : s ≡ r = cc in
    let places : p ≡ place = cc in
    let P : ScriptRefusal → Type 0 = λ x. IsRefusedScript x bytes place in
    let Q : ℕ → Type 0 = λ x. IsRefusedScript s bytes x in
    subst P kinds (subst Q places h)

pub lexer_refused : (bytes : List ℕ) → length bytes ≤ max_script → (q : LexRefusal) (p : ℕ) → Refuses 0 bytes q p → (s : ScriptRefusal) → s ≡ of_lexer q → (r : ScriptRefusal) (place : ℕ) → faults.Refused s p ≡ faults.Refused r place → IsRefusedScript r bytes place
lexer_refused bytes le q p h s is r place e =
    let P : ScriptRefusal → Type 0 = λ x. IsRefusedScript x bytes p in
    moved bytes s p (subst P (sym is) (lexer_kind bytes le q p h)) r place e

pub parser_refused : (bytes : List ℕ) → length bytes ≤ max_script → (ts : List Token) → Lexes 0 bytes ts → (q : SyntaxFault) (n : ℕ) → IsFirst Sql q ts n → (p : ℕ) → p ≡ byte_at (length bytes) ts n → (s : ScriptRefusal) → s ≡ of_parser q
    → (r : ScriptRefusal) (place : ℕ) → faults.Refused s p ≡ faults.Refused r place → IsRefusedScript r bytes place
parser_refused bytes le ts l q n first p at s is r place e =
    let P : ScriptRefusal → Type 0 = λ x. IsRefusedScript x bytes p in
    moved bytes s p (subst P (sym is) (parser_kind bytes q p (record { short = le; tokens = ts; lexes = l; n = n; first = first; at = at }))) r place e

pub script_read : (bytes : List ℕ) → length bytes ≤ max_script → (ts : List Token) → Lexes 0 bytes ts → (ss : List Statement) → IsRead Sql ts ss → IsReadScript bytes ss
script_read bytes le ts l ss h = record { short = le; tokens = ts; lexes = l; read = h }
