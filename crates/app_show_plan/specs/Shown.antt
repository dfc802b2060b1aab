-- What is shown of a script: of each statement a text, and of a query at its end the plan.
use Rattle.std.specs.Prelude.{◌≡◌, ℕ, List, [], ◌∷◌, ◌++◌, Bool, true, false, ◌&&◌}
use Rattle.std.specs.Prelude.{Result, Ok, Err, ⊤}
use Rattle.base_refusals.specs.declared.bind.BindRefusal.{BindRefusal}
use Rattle.base_refusals.specs.declared.statement.Refusal.TheVariants.{Bind}
use Rattle.sql_ast.specs.declared.statement.Statement.{Statement}
use Rattle.sql_ast.specs.declared.statement.Statement.TheVariants as t
use Rattle.sql_templates.specs.Templates.{filled_query}
use Rattle.sql_bound_query.specs.declared.query.BoundQuery.{BoundQuery}
use Rattle.sql_binder_steps.specs.declared.fault.BindFault.{BindFault}
use Rattle.sql_binder_steps.specs.declared.view.View.{View}
use Rattle.sql_binder_steps.specs.Steps.{Checked, Gives}
use Rattle.sql_binder.specs.Binding.{bound_query}
use Rattle.plan_planner.specs.Planned.{IsPlanOf}
use Rattle.plan_spelling.specs.Plans.{EndsWithPlan}
use Rattle.app_sessions.specs.Expansion.{ExpandAll}
use Rattle.app_sessions.specs.Outcomes.{dropped, made, run_outcome}
use Rattle.app_sessions.specs.Views.{is_view, made_view, views_after}
use Rattle.app_sessions.specs.declared.outcome.Outcome.{Outcome}
use Rattle.app_sessions.specs.declared.outcome.Outcome.TheVariants as o
use Rattle.app_show_plan.specs.declared.query_plan.QueryPlan.{QueryPlan}
use Rattle.app_show_plan.specs.declared.script.PlanForm.{PlanForm}
use Rattle.app_show_plan.specs.declared.script.PlanForm.TheVariants.{Lines, Objects}
use Rattle.app_show_plan.specs.declared.statement_plan.StatementPlan.{StatementPlan}
use Rattle.app_show_plan.specs.declared.statement_plan.StatementPlan.TheVariants as s

-- What is shown of a query that binding gives `said` for: a plan of the bound query, by the clause
-- of the call that a session plans it by; refused exactly as binding is, unless memory is refused.
abbrev pub PlansQuery : Checked BoundQuery → Result QueryPlan BindFault → Type 0
PlansQuery said (Ok shown) = (q : BoundQuery) × (said ≡ Ok q) × IsPlanOf q shown.plan
PlansQuery said (Err why) = Gives said (Err why)

-- The same where it is a statement: its plan, or the refusal of binding.
abbrev pub ShowsQuery : Checked BoundQuery → StatementPlan → Type 0
ShowsQuery said (s.Query shown) = (q : BoundQuery) × (said ≡ Ok q) × IsPlanOf q shown.plan
ShowsQuery said s.Done = ⊥
ShowsQuery said s.Refresh = ⊥
ShowsQuery said (s.Refused why) = (no : BindRefusal) × (why ≡ Bind no) × (said ≡ Err no)

-- What is shown of a statement of which a session says that it is done or refused.
abbrev pub ShowsOutcome : Outcome → StatementPlan → Type 0
ShowsOutcome o.Done shown = shown ≡ s.Done
ShowsOutcome (o.Refused why) shown = shown ≡ s.Refused why
ShowsOutcome other shown = ⊥

-- what a session says of a view that is made or dropped, and of a run
abbrev pub IsOfView : Outcome → Type 0
IsOfView o.Done = ⊤
IsOfView (o.Refused why) = ⊤
IsOfView other = ⊥

-- What is shown of a statement over views. A refresh isn't tried.
abbrev pub ShowsStatement : Statement → List View → StatementPlan → Type 0
ShowsStatement (t.Query query) views shown = ShowsQuery (bound_query query views) shown
ShowsStatement (t.CreateView name names query) views shown =
    ShowsOutcome (made (made_view name names query views)) shown
ShowsStatement (t.DropView name) views shown = ShowsOutcome (dropped (is_view name views)) shown
ShowsStatement (t.Refresh kind number) views shown = shown ≡ s.Refresh
ShowsStatement (t.Run number values) views shown =
    ShowsOutcome (run_outcome (filled_query number values)) shown

-- A text ends with the line of a query's plan; of another statement anything may stand there.
abbrev pub EndsWithItsPlan : StatementPlan → List ℕ → Type 0
EndsWithItsPlan (s.Query shown) text = EndsWithPlan shown.plan.nodes text
EndsWithItsPlan s.Done text = Unit
EndsWithItsPlan s.Refresh text = Unit
EndsWithItsPlan (s.Refused why) text = Unit

-- The same where plans are lines; of JSON nothing is said.
abbrev pub EndsInForm : PlanForm → StatementPlan → List ℕ → Type 0
EndsInForm Lines shown text = EndsWithItsPlan shown text
EndsInForm Objects shown text = Unit

-- Whether a statement isn't refused.
abbrev pub is_accepted : StatementPlan → Bool
is_accepted (s.Query shown) = true
is_accepted s.Done = true
is_accepted s.Refresh = true
is_accepted (s.Refused why) = false

-- The text of a statement over views, and whether the statement is accepted.
abbrev pub EndsAsShown : PlanForm → Statement → List View → List ℕ → Bool → Type 0
EndsAsShown form statement views text accepted = (shown : StatementPlan)
    × ShowsStatement statement views shown × EndsInForm form shown text
    × (accepted ≡ is_accepted shown)

-- The texts of statements, one after the other, and whether each is accepted. Each is shown over
-- the views that the ones before it leave.
abbrev pub AreShown : PlanForm → List View → List Statement → List ℕ → Bool → Type 0
AreShown form views [] text clean = (text ≡ []) × (clean ≡ true)
AreShown form views (statement ∷ statements) text clean =
    (first : List ℕ) × (rest : List ℕ) × (here : Bool) × (there : Bool)
    × EndsAsShown form statement views first here
    × AreShown form (views_after views statement) statements rest there
    × (text ≡ first ++ rest) × (clean ≡ (here && there))

-- What is shown of a script's statements: the text of those that they stand for, from no view on.
abbrev pub ShowsScript : PlanForm → List Statement → List ℕ → Bool → Type 0
ShowsScript form statements text clean =
    (steps : List Statement) × ExpandAll statements steps × AreShown form [] steps text clean
