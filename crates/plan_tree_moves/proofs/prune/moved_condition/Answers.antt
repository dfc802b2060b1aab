use Rattle.std.proofs.Common.{◌≡◌, ◌+◌, ◌++◌, ◌∙◌, ap, rules}
use Rattle.expr_conditions.specs.Ranks.{columns_from}
use Rattle.plan_tree_moves.proofs.Pruning.{condition_moves, found_as, renamed_as}
use Rattle.plan_tree_moves.proofs.prune.moved_condition.Goals as goal

pub returns-then-found : goal.returns-then-found
returns-then-found c =
    let end : c.in_ok-end.end ≡ c.args.n + c.args.w = search rules in
    condition_moves c.args.n c.args.kept.now c.in_ok-both.both.items c.put_run.new.to.items
    c.in_ok-places.places.items c.args.w c.args.k c.args.c.now c.in_ok-renamed.renamed
    c.in_ok-new.new
    c.in_ok-both.ensures (c.in_ok-put_run.ensures
    ∙ ap (λ m. c.in_ok-both.both.items ++ columns_from m c.args.k) end)
    (found_as _ _ _ _ c.args.c.now c.deref-2.ensures.value c.deref-3.ensures.value
    (c.in_ok-found.ensures c.if-found.true))
    (renamed_as c.deref-then-found.ensures.value c.in_ok-renamed.ensures.meaning)
    c.in_ok-new.ensures
