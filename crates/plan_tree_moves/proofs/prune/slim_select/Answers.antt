use Rattle.std.proofs.Common.{◌∙◌, ap}
use Rattle.plan_algebra.specs.declared.tree.DepTree.TheVariants as t
use Rattle.expr_scalar.specs.declared.expr.Expr.{Expr}
use Rattle.plan_predicate_sinking.specs.Narrow.{whole_columns}
use Rattle.plan_tree_moves.proofs.Pruning.{keeps_select, found_as, renamed_as}
use Rattle.plan_tree_moves.proofs.prune.slim_select.Goals as goal

pub returns-in_ok-tree : goal.returns-in_ok-tree
returns-in_ok-tree c = λ x k.
    keeps_select c.args.n x c.args.input.tree c.in_ok-tree.tree c.args.input.kept.items
    c.in_ok-whole.whole.items c.in_ok-places.places.items c.args.c.now c.in_ok-renamed.renamed
    (c.in_ok-whole.ensures ∙ ap (whole_columns c.args.n) c.deref.ensures.value)
    (found_as _ _ _ _ c.args.c.now c.deref-3.ensures.value c.deref-4.ensures.value
    (c.in_ok-found.ensures c.if-found.true))
    (renamed_as c.deref-then-found.ensures.value c.in_ok-renamed.ensures.meaning)
    (c.in_ok-tree.ensures ∙ ap (λ (y : Expr). t.Select c.args.input.tree y) c.in_ok-c.ensures) k
