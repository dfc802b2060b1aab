-- Laws of filled templates.
use Rattle.std.specs.Prelude.{◌≡◌, ℕ, List, Ok, Some}
use Rattle.sql_ast.specs.declared.statement.Statement.{Statement}
use Rattle.sql_ast.specs.declared.statement.TemplateValue.{TemplateValue}
use Rattle.sql_lexer.specs.Lexing.{Lexes}
use Rattle.sql_lexer.specs.declared.token.Token.{Token}
use Rattle.sql_parser.specs.Script.{IsReadScript}
use Rattle.sql_templates.specs.Parts.{outside, sample_tokens}
use Rattle.sql_templates.specs.Standing.{Beside, IsOfKind}
use Rattle.sql_templates.specs.Templates.{filled_query, template_of}
use Rattle.sql_templates.specs.Writable.{AreWritable}

-- The text that a query is filled to has tokens: so no refusal of the lexer stands in it. Their
-- kinds are those of the template's sample tokens, whatever the values are.
pub record HasTokens (number : ℕ) (text : List ℕ) : Type 0 where
  pub sample : List Token
  pub is_sample : sample_tokens (template_of number).kinds (outside (template_of number).text)
      ≡ Some sample
  pub tokens : List Token
  pub lexes : Lexes 0 text tokens
  pub kinds : Beside IsOfKind sample tokens

-- each filled text has tokens
abbrev pub FilledIsTokens : Type 0
FilledIsTokens = (number : ℕ) (values : List TemplateValue) (text : List ℕ) → AreWritable values
    → filled_query number values ≡ Ok text → HasTokens number text

-- the bytes are a script: they have statements, and no refusal stands in them
abbrev pub IsSomeScript : List ℕ → Type 0
IsSomeScript text = (statements : List Statement) × IsReadScript text statements

-- each filled text is a script
abbrev pub FilledIsScript : Type 0
FilledIsScript = (number : ℕ) (values : List TemplateValue) (text : List ℕ) → AreWritable values
    → filled_query number values ≡ Ok text → IsSomeScript text
