-- Refusals of bytes and of tokens as refusals of a script.
use Rattle.sql_grammar_laws.specs.declared.SyntaxFault.{SyntaxFault}
use Rattle.sql_grammar_laws.specs.declared.SyntaxFault.TheVariants as refusal
use Rattle.sql_lexer.specs.declared.fault.LexRefusal.{LexRefusal}
use Rattle.sql_lexer.specs.declared.fault.LexRefusal.TheVariants as lex
use Rattle.sql_parser.specs.declared.fault.ScriptRefusal.{ScriptRefusal}
use Rattle.sql_parser.specs.declared.fault.ScriptRefusal.TheVariants as script

-- a refusal of bytes, by the same name
abbrev pub of_lexer : LexRefusal → ScriptRefusal
of_lexer lex.BadByte = script.BadByte
of_lexer lex.OpenText = script.OpenText
of_lexer lex.NumberTooWide = script.NumberTooWide
of_lexer lex.ScaleTooWide = script.ScaleTooWide

-- a refusal of tokens, by the same name
abbrev pub of_parser : SyntaxFault → ScriptRefusal
of_parser refusal.Unexpected = script.Unexpected
of_parser refusal.TooDeep = script.TooDeep
of_parser refusal.TooWide = script.TooWide
