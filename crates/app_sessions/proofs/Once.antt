-- A script's statements stand for one list of statements.
use Rattle.std.proofs.Common.{◌≡◌, ◌∙◌, ℕ, List, [], ◌∷◌, ◌++◌, Option, None, Some, ap, sym}
use Rattle.sql_ast.specs.declared.statement.Statement.{Statement}
use Rattle.sql_parser.proofs.Whole.{bytes_once}
use Rattle.app_sessions.specs.Expansion.{ExpandsText, run_text}
use Rattle.app_sessions.specs.Laws.{ExpandOnce}

one_text : (text : Option (List ℕ)) (s : Statement) (a b : List Statement) → ExpandsText text s a → ExpandsText text s b → a ≡ b
one_text (Some text) s a b x y = bytes_once text a b x y
one_text None s a b x y = x ∙ sym y

pub expand_once : ExpandOnce
expand_once [] a b x y = x ∙ sym y
expand_once (s ∷ ss) a b (first, rest, one, all, is) (other, later, one', all', is') =
    is ∙ ap (λ l. l ++ rest) (one_text (run_text s) s first other one one') ∙ ap (λ l. other ++ l) (expand_once ss rest later all all') ∙ sym is'
