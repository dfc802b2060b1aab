use Rattle.plan_planner.proofs.Lines.{text_more}
use Rattle.plan_planner.proofs.text.nodes_text.Goals as goal

pub loop-number-preserved : goal.loop-number-preserved
loop-number-preserved c =
    text_more c.args.nodes.now c.loop-number.number c.index-nodes-number.result
    c.loop-number.text.items c.push_node.new.text.items c.loop-number-test.true
    c.index-nodes-number.is
    c.loop-number.invariant c.in_ok-push_node.ensures
