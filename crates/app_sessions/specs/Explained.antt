-- The plans of a script's statements, as they are printed. No statement is answered, and no version
-- is named.
use Rattle.std.specs.Prelude.{◌≡◌, ℕ, ◌+◌, List, [], ◌∷◌, ◌++◌, Bool, true, false, ◌&&◌, not, codes}
use Rattle.std.specs.Prelude.{decimal, Result, Ok, Err}
use Rattle.plan_algebra.specs.declared.plan.FlatPlan.{FlatPlan}
use Rattle.sql_bound_query.specs.declared.query.BoundQuery.{BoundQuery}
use Rattle.plan_planner.specs.PlanText.{text_of_plan}
use Rattle.plan_planner.specs.Planned.{IsPlanOf}
use Rattle.sql_templates.specs.Templates.{filled_query}
use Rattle.base_refusals.specs.declared.statement.Refusal.{Refusal}
use Rattle.base_refusals.specs.declared.statement.Refusal.TheVariants.{Bind}
use Rattle.app_result_text.specs.Refusal.{refusal_written}
use Rattle.sql_ast.specs.declared.statement.Statement.{Statement}
use Rattle.sql_ast.specs.declared.statement.Statement.TheVariants as statement
use Rattle.sql_binder.specs.Binding.{bound_query}
use Rattle.sql_binder_steps.specs.Steps.{Checked}
use Rattle.sql_binder_steps.specs.declared.view.View.{View}
use Rattle.app_sessions.specs.Outcomes.{dropped, is_refusal, made, run_outcome}
use Rattle.app_sessions.specs.Views.{is_view, made_view, views_after}
use Rattle.app_sessions.specs.declared.outcome.Outcome.{Outcome}
use Rattle.app_sessions.specs.declared.outcome.Outcome.TheVariants.{Refused}

-- a text after the number of its statement
abbrev pub numbered : ℕ → List ℕ → List ℕ
numbered number text = codes "[" ++ decimal number ++ codes "] " ++ text

-- the line of a refused statement
abbrev pub refused_line : ℕ → Refusal → List ℕ
refused_line number why = numbered number (refusal_written why ++ codes "\n")

-- the line of a statement that is neither a query nor a refresh, by what comes of it
abbrev pub short_line : ℕ → Outcome → List ℕ
short_line number (Refused why) = refused_line number why
short_line number other = numbered number (codes "done\n")

-- the lines of a query: those of some plan of the bound query, or why the query is not bound
abbrev pub IsQueryExplained : ℕ → Checked BoundQuery → List ℕ → Type 0
IsQueryExplained number (Ok bound) text = (plan : FlatPlan) × IsPlanOf bound plan
    × (text ≡ numbered number (text_of_plan plan.nodes))
IsQueryExplained number (Err why) text = text ≡ refused_line number (Bind why)

-- the lines of a statement of this number
abbrev pub IsExplained : ℕ → List View → Statement → List ℕ → Type 0
IsExplained number views (statement.Query q) text =
    IsQueryExplained number (bound_query q views) text
IsExplained number views (statement.CreateView name names q) text =
    text ≡ short_line number (made (made_view name names q views))
IsExplained number views (statement.DropView name) text =
    text ≡ short_line number (dropped (is_view name views))
IsExplained number views (statement.Refresh change set) text =
    text ≡ numbered number (codes "refresh\n")
IsExplained number views (statement.Run query values) text =
    text ≡ short_line number (run_outcome (filled_query query values))

-- the query is not bound
abbrev pub is_unbound : Checked BoundQuery → Bool
is_unbound (Ok bound) = false
is_unbound (Err why) = true

-- the statement is refused without being answered
abbrev pub is_refused : List View → Statement → Bool
is_refused views (statement.Query q) = is_unbound (bound_query q views)
is_refused views (statement.CreateView name names q) =
    is_refusal (made (made_view name names q views))
is_refused views (statement.DropView name) = is_refusal (dropped (is_view name views))
is_refused views (statement.Refresh change set) = false
is_refused views (statement.Run query values) = is_refusal (run_outcome (filled_query query values))

-- the lines of statements, numbered on, each over the views that those before it leave
abbrev pub AreExplained : ℕ → List View → List Statement → List ℕ → Type 0
AreExplained number views [] text = text ≡ []
AreExplained number views (statement ∷ statements) text =
    (first : List ℕ) × (rest : List ℕ) × IsExplained number views statement first
    × AreExplained (number + 1) (views_after views statement) statements rest
    × (text ≡ first ++ rest)

-- none of the statements is refused
abbrev pub are_taken : List View → List Statement → Bool
are_taken views [] = true
are_taken views (statement ∷ statements) =
    not (is_refused views statement) && are_taken (views_after views statement) statements
