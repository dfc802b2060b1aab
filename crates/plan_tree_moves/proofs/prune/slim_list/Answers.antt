use Rattle.std.proofs.Common.{◌∙◌, ap}
use Rattle.plan_predicate_sinking.specs.Narrow.{whole_columns}
use Rattle.plan_tree_moves.proofs.Pruning.{list_kept, all_found_as, all_renamed_as}
use Rattle.plan_tree_moves.proofs.prune.slim_list.Goals as goal

pub returns-in_ok-new : goal.returns-in_ok-new
returns-in_ok-new c = λ x k.
    list_kept c.args.n x c.args.input.tree c.in_ok-new.new c.args.input.kept.items
    c.in_ok-whole.whole.items c.in_ok-places.places.items c.args.es.now c.in_ok-list.list
    (c.in_ok-whole.ensures ∙ ap (whole_columns c.args.n) c.deref.ensures.value)
    (all_found_as _ _ _ _ c.args.es.now c.deref-3.ensures.value c.deref-4.ensures.value
    (c.in_ok-found.ensures c.if-found.true))
    (all_renamed_as c.deref-then-found.ensures.value c.in_ok-list.ensures) c.in_ok-new.ensures k
