use Rattle.std.proofs.Common.{◌≡◌, ◌+◌, rules}
use Rattle.plan_tree_moves.proofs.Pruning.{found_as, renamed_as}
use Rattle.plan_tree_moves.proofs.OuterColumns.{both_move}
use Rattle.plan_tree_moves.proofs.slim_joins.condition_on_both.Goals as goal

pub returns-then-found : goal.returns-then-found
returns-then-found c =
    let end : c.in_ok-end.end ≡ c.args.n + c.args.w = search rules in
    both_move c.args.n c.args.kept.now c.in_ok-both.both.items c.put_after.new.to.items
    c.in_ok-places.places.items c.args.w c.in_ok-end.end c.args.own.now c.args.c.now
    c.in_ok-renamed.renamed c.in_ok-new.new
    c.in_ok-both.ensures end c.in_ok-put_after.ensures
    (found_as _ _ _ _ c.args.c.now c.deref-2.ensures.value c.deref-3.ensures.value
    (c.in_ok-found.ensures c.if-found.true))
    (renamed_as c.deref-then-found.ensures.value c.in_ok-renamed.ensures.meaning)
    c.in_ok-new.ensures
