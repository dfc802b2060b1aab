use Rattle.plan_tree_moves.proofs.Pruning.{found_as, renamed_as}
use Rattle.plan_tree_moves.proofs.RightColumns.{right_moves}
use Rattle.plan_tree_moves.proofs.right_columns.condition_on_right.Goals as goal

pub returns-then-found : goal.returns-then-found
returns-then-found c =
    right_moves c.args.before c.args.own.now c.in_ok-whole.whole.items c.in_ok-places.places.items
    c.args.c.now c.in_ok-renamed.renamed c.in_ok-new.new c.in_ok-whole.ensures
    (found_as _ _ _ _ c.args.c.now c.deref-2.ensures.value c.deref-3.ensures.value
    (c.in_ok-found.ensures c.if-found.true))
    (renamed_as c.deref-then-found.ensures.value c.in_ok-renamed.ensures.meaning)
    c.in_ok-new.ensures
