use Rattle.exec_hash_group.proofs.Steps.{values_more}
use Rattle.exec_hash_group.proofs.groups.values_of.Goals as goal

pub loop-state-preserved : goal.loop-state-preserved
loop-state-preserved g c =
    values_more g.A.Accumulator.has_taken c.args.states.now c.loop-state.values.items c.push.new.self.items c.loop-state.state-index c.state-item.result c.in_ok-value.value
    c.loop-state-test.true c.state-item.is c.loop-state.invariant c.in_ok-value.ensures c.in_ok-push.ensures.items
