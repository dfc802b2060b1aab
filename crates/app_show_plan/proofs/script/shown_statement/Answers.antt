use Rattle.app_show_plan.proofs.script.shown_statement.Goals as goal

pub returns-clause-shown : goal.returns-clause-shown
returns-clause-shown g c = (
  c.in_ok-plan.plan,
  c.in_ok-plan.ensures.shown,
  c.in_ok-push_plan.ensures,
  c.is_accepted.ensures,
)
