use Rattle.app_show_plan.proofs.ShownSteps.{AreShownUpTo}
use Rattle.app_show_plan.proofs.script.shown_steps.Given as goal

abbrev pub invariant-loop-place : goal.invariant-loop-place
invariant-loop-place g l = AreShownUpTo l.form l.steps l.place l.views l.text.items l.is_clean
