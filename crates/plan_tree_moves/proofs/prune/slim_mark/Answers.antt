use Rattle.std.proofs.Common.{◌∙◌, ap, subst, refl}
use Rattle.expr_scalar.specs.declared.expr.Expr.{Expr}
use Rattle.plan_algebra.specs.declared.tree.DepTree.TheVariants as t
use Rattle.plan_algebra.specs.Trees.{width_of}
use Rattle.plan_predicate_sinking.specs.Arranged.{SameRows}
use Rattle.plan_tree_moves.specs.Prune.{ConditionMoves}
use Rattle.plan_tree_moves.proofs.Pruning.{keeps_mark}
use Rattle.plan_tree_moves.proofs.RightColumns.{keeps_then}
use Rattle.plan_tree_moves.proofs.prune.slim_mark.Goals as goal

pub returns-in_ok-kept-in-Some-2 : goal.returns-in_ok-kept-in-Some-2
returns-in_ok-kept-in-Some-2 c = λ l wide k.
    let made = t.Mark c.args.left.tree c.args.right c.in-Some.moved c.in-Some-2.on in
    keeps_then c.args.n (t.Mark l c.args.right c.args.side.now c.args.c.now) made
    c.in_ok-tree-in-Some-2.tree c.in_ok-kept-in-Some-2.kept.items
    (keeps_mark c.args.n l c.args.left.tree c.args.right c.args.left.kept.items c.args.w
    c.args.side.now c.in-Some.moved wide k c.in_ok-k.k c.args.c.now c.in-Some-2.on made
    c.in_ok-kept-in-Some-2.kept.items (c.in_ok-k.ensures ∙ ap width_of c.get.ensures)
    (rw c.in-Some.is at c.in_ok-moved.ensures)
    (subst (λ v. ConditionMoves c.args.n v c.args.w c.in_ok-k.k c.args.c.now c.in-Some-2.on)
    c.deref.ensures.value (rw c.in-Some-2.is at c.in_ok-on-in-Some.ensures))
    refl c.in_ok-kept-in-Some-2.ensures)
    (subst (λ (e : Expr). SameRows c.args.n (t.Mark c.args.left.tree c.args.right c.in-Some.moved e)
    c.in_ok-tree-in-Some-2.tree) c.get-in-Some-2.ensures c.in_ok-tree-in-Some-2.ensures)
