use Rattle.plan_tree_moves.proofs.Pruning.{groups_slim}
use Rattle.plan_tree_moves.proofs.prune.slim_groups.Goals as goal

pub returns-in_ok-new-in-Some-2 : goal.returns-in_ok-new-in-Some-2
returns-in_ok-new-in-Some-2 c = λ a k.
    groups_slim c.args.n a c.args.input.tree c.in_ok-new-in-Some-2.new c.args.input.kept.items _
    c.in_ok-whole.whole.items _ _ c.args.by.now c.in-Some.keys c.args.aggregates.now
    c.in-Some-2.moved c.deref.ensures.value c.in_ok-whole.ensures c.deref-3.ensures.value
    (rw c.in-Some.is at c.in_ok-keys.ensures) c.deref-in-Some-2.ensures.value
    (rw c.in-Some-2.is at c.in_ok-moved-in-Some.ensures) c.in_ok-new-in-Some-2.ensures k
