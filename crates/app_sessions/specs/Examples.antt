-- Texts of sessions and of explanations, worked out by hand, over any tables.
use Rattle.std.specs.Prelude.{◌≡◌, ℕ, List, [], ◌∷◌, true, false, pos, codes, Result, Ok, Err}
use Rattle.base_refusals.specs.declared.refresh.Cause.{Cause}
use Rattle.base_refusals.specs.declared.refresh.Cause.TheVariants.{OrderExists}
use Rattle.sql_ast.specs.declared.statement.RefreshKind.TheVariants.{Insert, Delete}
use Rattle.sql_ast.specs.declared.statement.Statement.{Statement}
use Rattle.sql_ast.specs.declared.statement.Statement.TheVariants.{CreateView, DropView, Refresh}
use Rattle.sql_ast.specs.declared.statement.Statement.TheVariants.{Run}
use Rattle.sql_ast.specs.declared.statement.TemplateValue.TheVariants.{Number}
use Rattle.sql_ast.specs.declared.tree.Block.{Block}
use Rattle.base_schema.specs.State.{State}
use Rattle.app_sessions.specs.Explained.{AreExplained, are_taken}
use Rattle.app_sessions.specs.Outcomes.{Moment}
use Rattle.app_sessions.specs.Sessions.{are_clean, lines_of}

-- a moment at a version
abbrev pub moment : (ℕ → State) → ℕ → Result ℕ Cause → Moment
moment tables version tried = record { version = version; tables = tables; tried = tried }

-- an insert, the same again, and a delete
abbrev pub refreshes : List Statement
refreshes = Refresh Insert 1 ∷ Refresh Insert 1 ∷ Refresh Delete 1 ∷ []

-- the second one is refused, since the first one's order is there
abbrev pub tries : (ℕ → State) → List Moment
tries tables = moment tables 0 (Ok 1) ∷ moment tables 1 (Err (OrderExists (pos 9)))
    ∷ moment tables 1 (Ok 2) ∷ []

-- runs of a query that is none, without its value, and with a number for a date
abbrev pub runs : List Statement
runs = Run 23 [] ∷ Run 4 [] ∷ Run 4 (Number (pos 5) 0 ∷ []) ∷ []

-- three moments at the first version
abbrev pub at_first : (ℕ → State) → List Moment
at_first tables = moment tables 0 (Ok 0) ∷ moment tables 0 (Ok 0) ∷ moment tables 0 (Ok 0) ∷ []

-- what the definitions say of these
pub record Examples : Type 0 where
  pub refreshed : (tables : ℕ → State) → lines_of true 1 [] refreshes (tries tables)
      ≡ codes "[1] version 0 accepted 1\n[2] version 1 refused 41 OrderExists 9\n[3] version 1 accepted 2\n"
  pub not_clean : (tables : ℕ → State) → are_clean [] refreshes (tries tables) ≡ false
  pub runs_refused : (tables : ℕ → State) → lines_of true 1 [] runs (at_first tables)
      ≡ codes "[1] version 0 refused 30 NoSuchQuery\n[2] version 0 refused 31 WrongCount\n[3] version 0 refused 32 WrongKind 1\n"
  pub no_view : (tables : ℕ → State) → lines_of true 1 [] (DropView (codes "v") ∷ []) (at_first tables)
      ≡ codes "[1] version 0 refused 21 UnknownView\n"
  pub table_there : (tables : ℕ → State) (query : Block)
      → lines_of true 1 [] (CreateView (codes "region") [] query ∷ []) (at_first tables)
      ≡ codes "[1] version 0 refused 20 ViewExists\n"
  pub explained : AreExplained 1 [] refreshes (codes "[1] refresh\n[2] refresh\n[3] refresh\n")
  pub all_taken : are_taken [] refreshes ≡ true
  pub explained_runs : AreExplained 1 [] runs
      (codes "[1] refused 30 NoSuchQuery\n[2] refused 31 WrongCount\n[3] refused 32 WrongKind 1\n")
  pub none_taken : are_taken [] runs ≡ false
