use Rattle.app_plan_text.proofs.Growth.{grown}
use Rattle.app_plan_text.proofs.plan.plan_lines.Goals as goal

pub loop-number-preserved : goal.loop-number-preserved
loop-number-preserved c =
    grown c.args.nodes.now c.loop-number.number c.index-nodes-number.result
    c.loop-number.lines.items c.push.new.self.items c.in_ok-line.line c.loop-number-test.true
    c.index-nodes-number.is c.loop-number.invariant c.in_ok-line.ensures c.in_ok-push.ensures.items
