use Rattle.std.proofs.Common.{◌≡◌, ◌+◌, ◌∙◌, ap, subst, rules}
use Rattle.plan_algebra.specs.declared.tree.DepTree.{DepTree}
use Rattle.plan_algebra.specs.declared.tree.DepTree.TheVariants as t
use Rattle.plan_algebra.specs.Trees.{width_of}
use Rattle.plan_predicate_sinking.specs.Narrow.{IsNarrowed}
use Rattle.plan_tree_moves.specs.Prune.{RightMoves}
use Rattle.plan_tree_moves.proofs.RightColumns.{mark_narrowed}
use Rattle.plan_tree_moves.proofs.right_columns.narrow_mark.Goals as goal

pub returns-in_ok-new-in-Some : goal.returns-in_ok-new-in-Some
returns-in_ok-new-in-Some c =
    let both : c.in_ok-before.before ≡ c.args.n + c.in_ok-w.w = search rules in
    mark_narrowed c.args.n c.in_ok-m-in-Some.m c.in_ok-w.w c.in_ok-before.before c.args.left
    c.args.right c.in_ok-right-in-Some.right c.in_ok-new-in-Some.new c.args.side.now c.args.c.now
    c.in-Some.on c.in_ok-own.own.items (c.in_ok-w.ensures ∙ ap width_of c.get.ensures) both
    c.in_ok-m-in-Some.ensures
    (subst (λ (r : DepTree). IsNarrowed c.in_ok-m-in-Some.m r c.in_ok-own.own.items
    c.in_ok-right-in-Some.right) c.get-in-Some.ensures
    (subst (λ o. IsNarrowed c.in_ok-m-in-Some.m c.get-in-Some.result.now o
    c.in_ok-right-in-Some.right) c.deref-in-Some.ensures.value c.in_ok-right-in-Some.ensures))
    (subst (λ o. RightMoves c.in_ok-before.before o c.args.c.now c.in-Some.on)
    c.deref-2.ensures.value (rw c.in-Some.is at c.in_ok-on.ensures))
    (c.in_ok-new-in-Some.ensures
    ∙ ap (λ s. t.Mark c.args.left c.in_ok-right-in-Some.right s c.in-Some.on)
    c.in_ok-side-in-Some.ensures)
