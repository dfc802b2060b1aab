-- What a session says of views and runs is that they are done or refused.
use Rattle.std.proofs.Common.{◌≡◌, ℕ, List, Bool, true, false, subst, sym}
use Rattle.std.specs.declared.result.Result.{Result}
use Rattle.std.specs.declared.result.Result.TheVariants.{Ok, Err}
use Rattle.base_refusals.specs.declared.statement.Refusal.{Refusal}
use Rattle.base_refusals.specs.declared.statement.TemplateRefusal.{TemplateRefusal}
use Rattle.sql_binder_steps.specs.declared.view.View.{View}
use Rattle.app_sessions.specs.Outcomes.{dropped, made, run_outcome}
use Rattle.app_sessions.specs.declared.outcome.Outcome.{Outcome}
use Rattle.app_show_plan.specs.Shown.{IsOfView}

made_is : (r : Result View Refusal) → IsOfView (made r)
made_is (Ok view) = tt
made_is (Err why) = tt

dropped_is : (there : Bool) → IsOfView (dropped there)
dropped_is true = tt
dropped_is false = tt

run_is : (r : Result (List ℕ) TemplateRefusal) → IsOfView (run_outcome r)
run_is (Ok text) = tt
run_is (Err why) = tt

-- a view that is made
pub of_made : (o : Outcome) (r : Result View Refusal) → o ≡ made r → IsOfView o
of_made o r e = subst IsOfView (sym e) (made_is r)

-- one that is dropped
pub of_dropped : (o : Outcome) (there : Bool) → o ≡ dropped there → IsOfView o
of_dropped o there e = subst IsOfView (sym e) (dropped_is there)

-- a run
pub of_run : (o : Outcome) (r : Result (List ℕ) TemplateRefusal) → o ≡ run_outcome r → IsOfView o
of_run o r e = subst IsOfView (sym e) (run_is r)
