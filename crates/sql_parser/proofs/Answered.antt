-- All tokens have a statement list or a first refusal, and so have all bytes.
use Rattle.std.proofs.Common.{◌≡◌, ℕ, ◌-◌, ◌≤◌, Bool, true, false, List, length, Ok, Err, ◌⊎◌, inl, inr, refl, leb}
use Rattle.std.proofs.lemmas.Bool.{leb-true, leb-false}
use Rattle.sql_grammar_laws.specs.declared.SyntaxFault.{SyntaxFault}
use Rattle.sql_grammar_laws.specs.Readings.{Outcome}
use Rattle.sql_grammar_laws.specs.Scripts.{IsRead, IsFirst, statements}
use Rattle.sql_grammar_laws.proofs.Verdict.{read_is, refusal_is_first}
use Rattle.sql_lexer.specs.declared.token.Token.{Token}
use Rattle.sql_lexer.specs.Lexing.{Lexes, HasAnswer}
use Rattle.sql_lexer.proofs.Answered.{answered}
use Rattle.sql_ast.specs.declared.statement.Statement.{Statement}
use Rattle.sql_parser.specs.declared.fault.ScriptRefusal.{ScriptRefusal}
use Rattle.sql_parser.specs.declared.fault.ScriptRefusal.TheVariants as script
use Rattle.sql_parser.specs.Faults.{of_lexer, of_parser}
use Rattle.sql_parser.specs.Grammar.{Ended}
use Rattle.sql_parser_steps.specs.Readings.{ended_at}
use Rattle.sql_parser.specs.Script.{Sql, IsReadScript, IsRefusedScript, max_script, byte_at}
use Rattle.sql_parser.proofs.Levels.{is_read}
use Rattle.sql_parser.proofs.Whole.{lexer_kind, parser_kind}

abbrev Read : List Token → Type 0
Read ts = ((ss : List Statement) × IsRead Sql ts ss) ⊎ ((r : SyntaxFault) × (n : ℕ) × IsFirst Sql r ts n)

pub tokens_answered : (ts : List Token) → Read ts
tokens_answered ts = by (statements (ended_at 1023 64) (length ts) ts) refl
  where
    by : (o : Outcome Token (List Statement)) → statements (ended_at 1023 64) (length ts) ts ≡ o → Read ts
    by (Ok ss, us) e = inl (ss, read_is (Ended 1023 64) (ended_at 1023 64) (is_read 1023 64) ts ss us e)
    by (Err r, us) e = inr (r, length ts - length us, refusal_is_first (Ended 1023 64) (ended_at 1023 64) (is_read 1023 64) ts r us e)

abbrev ReadScript : List ℕ → Type 0
ReadScript bytes = ((ss : List Statement) × IsReadScript bytes ss) ⊎ ((r : ScriptRefusal) × (place : ℕ) × IsRefusedScript r bytes place)

by_tokens : (bytes : List ℕ) → length bytes ≤ max_script → (ts : List Token) → Lexes 0 bytes ts → Read ts → ReadScript bytes
by_tokens bytes le ts l (inl x) = inl (x.0, record { short = le; tokens = ts; lexes = l; read = x.1 })
by_tokens bytes le ts l (inr x) =
    inr (of_parser x.0, byte_at (length bytes) ts x.1, parser_kind bytes x.0 (byte_at (length bytes) ts x.1) (record { short = le; tokens = ts; lexes = l; n = x.1; first = x.2; at = refl }))

by_bytes : (bytes : List ℕ) → length bytes ≤ max_script → HasAnswer 0 bytes → ReadScript bytes
by_bytes bytes le (inl x) = by_tokens bytes le x.0 x.1 (tokens_answered x.0)
by_bytes bytes le (inr x) = inr (of_lexer x.0, x.1, lexer_kind bytes le x.0 x.1 x.2)

pub bytes_answered : (bytes : List ℕ) → ReadScript bytes
bytes_answered bytes = by (leb (length bytes) max_script) refl
  where
    by : (b : Bool) → leb (length bytes) max_script ≡ b → ReadScript bytes
    by true e = by_bytes bytes (leb-true _ _ e) (answered 0 bytes)
    by false e = inr (script.TooLong, max_script, (leb-false _ _ e, refl))
