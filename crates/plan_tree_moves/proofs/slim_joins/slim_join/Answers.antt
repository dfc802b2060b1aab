use Rattle.std.proofs.Common.{◌∙◌, ap, subst}
use Rattle.plan_algebra.specs.Trees.{width_of}
use Rattle.plan_tree_moves.specs.Prune.{ConditionMoves}
use Rattle.plan_tree_moves.proofs.SlimJoins.{keeps_join}
use Rattle.plan_tree_moves.proofs.slim_joins.slim_join.Goals as goal

pub returns-in_ok-kept-in-Some-2 : goal.returns-in_ok-kept-in-Some-2
returns-in_ok-kept-in-Some-2 c = λ l wide k.
    keeps_join c.args.n l c.args.left.tree c.args.right c.args.left.kept.items c.args.w
    c.args.side.now c.in-Some.moved wide k c.in_ok-k.k c.args.c.now c.in-Some-2.on
    c.in_ok-tree-in-Some-2.tree c.in_ok-kept-in-Some-2.kept.items
    (c.in_ok-k.ensures ∙ ap width_of c.get.ensures)
    (rw c.in-Some.is at c.in_ok-moved.ensures)
    (subst (λ v. ConditionMoves c.args.n v c.args.w c.in_ok-k.k c.args.c.now c.in-Some-2.on)
    c.deref.ensures.value (rw c.in-Some-2.is at c.in_ok-on-in-Some.ensures))
    c.in_ok-tree-in-Some-2.ensures c.in_ok-kept-in-Some-2.ensures
