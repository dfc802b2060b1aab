use Rattle.std.proofs.Common.{arith}
use Rattle.app_sessions.proofs.Explaining.{explaining_all, explaining_next}
use Rattle.app_sessions.proofs.explained.explain_steps.Goals as goal

pub loop-place-preserved : goal.loop-place-preserved
loop-place-preserved c =
    let (first, is, appended) = c.in_ok-is_refused.ensures.lines in
    explaining_next c.args.steps.now c.loop-place.place c.index-steps-place.result c.loop-place.views c.push_statement.new.views c.loop-place.text.items c.push_statement.new.text.items first c.loop-place.is_clean c.in_ok-is_refused.is_refused
    c.loop-place-test.true c.index-steps-place.is c.loop-place.invariant is appended c.in_ok-is_refused.ensures.refused c.in_ok-is_refused.ensures.views

pub returns-clause-lines : goal.returns-clause-lines
returns-clause-lines c = (explaining_all c.args.steps.now c.loop-place.place c.loop-place.views c.loop-place.text.items c.loop-place.is_clean (omega (arith, c.loop-place-test.false)) c.loop-place.invariant).0
