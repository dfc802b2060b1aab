use Rattle.plan_tree_moves.proofs.Pruning.{keeps_single}
use Rattle.plan_tree_moves.proofs.prune.slim_single.Goals as goal

pub returns-in_ok-kept-in-Some : goal.returns-in_ok-kept-in-Some
returns-in_ok-kept-in-Some c = λ l wide k.
    keeps_single c.args.n l c.args.left.tree c.args.right c.args.left.kept.items c.args.w
    c.args.side.now c.in-Some.moved wide k c.args.column c.in_ok-tree-in-Some.tree
    c.in_ok-kept-in-Some.kept.items (rw c.in-Some.is at c.in_ok-moved.ensures)
    c.in_ok-tree-in-Some.ensures c.in_ok-kept-in-Some.ensures
