use Rattle.app_sessions.specs.Views.{made_view}
use Rattle.app_show_plan.proofs.ViewOutcomes.{of_made}
use Rattle.app_show_plan.proofs.statement_plan.statement_plan.Goals as goal

pub shown_outcome-requires : goal.shown_outcome-requires
shown_outcome-requires g c =
    of_made c.in_ok-outcome-in-CreateView.outcome (made_view c.in-CreateView.name c.as_slice.result.now c.in-CreateView.query c.args.views.now)
    c.in_ok-outcome-in-CreateView.ensures.outcome
