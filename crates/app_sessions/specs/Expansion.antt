-- The statements that a script stands for: each run is replaced by the statements of its filled
-- text.
use Rattle.std.specs.Prelude.{◌≡◌, ℕ, List, [], ◌∷◌, ◌++◌, Option, None, Some, Result, Ok, Err}
use Rattle.sql_templates.specs.Templates.{filled_query}
use Rattle.base_refusals.specs.declared.statement.TemplateRefusal.{TemplateRefusal}
use Rattle.sql_ast.specs.declared.statement.Statement.{Statement}
use Rattle.sql_ast.specs.declared.statement.Statement.TheVariants.{Run}
use Rattle.sql_parser.specs.Script.{IsReadScript}

-- the text that a template is filled to, where it is
abbrev pub text_or_none : Result (List ℕ) TemplateRefusal → Option (List ℕ)
text_or_none (Ok text) = Some text
text_or_none (Err refusal) = None

-- the filled text of a run, where its template is filled; no other statement has one
abbrev pub run_text : Statement → Option (List ℕ)
run_text (Run number values) = text_or_none (filled_query number values)
run_text other = None

-- the statements of a text, or where there is none the statement itself
abbrev pub ExpandsText : Option (List ℕ) → Statement → List Statement → Type 0
ExpandsText (Some text) statement steps = IsReadScript text steps
ExpandsText None statement steps = steps ≡ statement ∷ []

-- A run stands for the statements of its filled text. Any other statement stands for itself, and so
-- does a run whose template is not filled: it is refused at its turn.
abbrev pub Expands : Statement → List Statement → Type 0
Expands statement steps = ExpandsText (run_text statement) statement steps

-- each statement of a script, in its order, is replaced by what it stands for
abbrev pub ExpandAll : List Statement → List Statement → Type 0
ExpandAll [] steps = steps ≡ []
ExpandAll (statement ∷ statements) steps =
    (first : List Statement) × (rest : List Statement) × Expands statement first
    × ExpandAll statements rest × (steps ≡ first ++ rest)
