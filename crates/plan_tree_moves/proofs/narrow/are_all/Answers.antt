use Rattle.std.proofs.Common.{rules}
use Rattle.plan_predicate_sinking.proofs.Narrowing.{run_grown}
use Rattle.plan_tree_moves.proofs.narrow.are_all.Goals as goal

pub loop-i-preserved : goal.loop-i-preserved
loop-i-preserved c = run_grown c.args.own.now c.loop-i.i c.loop-i-test.true (search rules)
    c.loop-i.invariant
