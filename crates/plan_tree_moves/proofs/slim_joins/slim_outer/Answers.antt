use Rattle.std.proofs.Common.{subst}
use Rattle.plan_algebra.specs.declared.tree.DepTree.{DepTree}
use Rattle.plan_predicate_sinking.specs.Narrow.{IsNarrowed}
use Rattle.plan_tree_moves.specs.Prune.{BothMove}
use Rattle.plan_tree_moves.proofs.OuterColumns.{keeps_outer}
use Rattle.plan_tree_moves.proofs.slim_joins.slim_outer.Goals as goal

pub returns-in_ok-put_after-in-Some-2 : goal.returns-in_ok-put_after-in-Some-2
returns-in_ok-put_after-in-Some-2 c = λ l wide k.
    keeps_outer c.args.n c.in_ok-m-in-Some-2.m l c.args.left.tree c.args.right
    c.in_ok-right-in-Some-2.right c.args.left.kept.items c.args.own.now c.args.w c.args.side.now
    c.in-Some.moved wide k c.in_ok-m-in-Some-2.ensures
    (subst (λ (r : DepTree). IsNarrowed c.in_ok-m-in-Some-2.m r c.args.own.now
    c.in_ok-right-in-Some-2.right) c.get.ensures c.in_ok-right-in-Some-2.ensures)
    c.requires c.args.c.now c.in-Some-2.on c.in_ok-tree-in-Some-2.tree c.put_after.new.to.items
    (rw c.in-Some.is at c.in_ok-moved.ensures)
    (subst (λ v. BothMove c.args.n v c.args.w c.args.own.now c.args.c.now c.in-Some-2.on)
    c.deref.ensures.value (rw c.in-Some-2.is at c.in_ok-on-in-Some.ensures))
    c.in_ok-tree-in-Some-2.ensures c.in_ok-put_after-in-Some-2.ensures
