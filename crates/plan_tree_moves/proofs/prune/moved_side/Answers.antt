use Rattle.std.proofs.Common.{refl}
use Rattle.plan_tree_moves.proofs.Pruning.{side_closed, side_shared, side_depends}
use Rattle.plan_tree_moves.proofs.prune.moved_side.Goals as goal

pub returns-in-Closed : goal.returns-in-Closed
returns-in-Closed c = λ n kept w. side_closed n kept c.args.side.now _ c.in-Closed.is refl

pub returns-in-Shared : goal.returns-in-Shared
returns-in-Shared c = λ n kept w. side_shared n kept c.args.side.now _ c.in-Shared.is refl

pub returns-in-Some : goal.returns-in-Some
returns-in-Some c = λ n kept w.
    side_depends n kept c.args.whole.now c.args.side.now _ c.in-Dependent.columns _ c.in-Some.moved
    w
    c.in-Dependent.is c.as_slice.ensures (rw c.in-Some.is at c.in_ok-moved-in-Dependent.ensures)
    refl
