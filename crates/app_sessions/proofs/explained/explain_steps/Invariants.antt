use Rattle.app_sessions.proofs.Explaining.{Explaining}
use Rattle.app_sessions.proofs.explained.explain_steps.Given as goal

abbrev pub invariant-loop-place : goal.invariant-loop-place
invariant-loop-place l = Explaining l.steps l.place l.views l.text.items l.is_clean
