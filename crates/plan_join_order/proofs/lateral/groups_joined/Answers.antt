use Rattle.std.proofs.Common.{◌∙◌, ◌++◌, ap, rules}
use Rattle.expr_conditions.specs.Ranks.{columns_from}
use Rattle.plan_algebra.specs.declared.tree.DepTree.TheVariants as t
use Rattle.plan_join_order.proofs.LateralSteps.{groups_made}
use Rattle.plan_join_order.proofs.lateral.groups_joined.Goals as goal

pub returns : goal.returns
returns c =
    groups_made c.args.n c.args.left c.args.input c.in_ok-new.new c.in_ok-rows.rows
    c.in_ok-groups.groups c.args.columns.now c.in_ok-from_slice.field-0 c.deref.result.now
    c.args.aggregates c.in_ok-list.list c.in_ok-first.first c.in_ok-after.after c.in_ok-more.more
    c.in_ok-on.on c.requires.some c.requires.null (search rules) (search rules) (search rules)
    (c.deref.ensures.value ∙ c.in_ok-put_run-2.ensures
    ∙ ap (λ l. l ++ columns_from c.in_ok-after.after c.in_ok-more.more)
    (c.in_ok-put_run.ensures
    ∙ ap (λ l. l ++ columns_from 0 c.in_ok-first.first) c.new-own.ensures.items))
    c.in_ok-list.ensures
    (c.in_ok-groups.ensures ∙ ap (λ y. t.Group c.args.input y c.args.aggregates) c.in_ok-by.ensures)
    c.in_ok-on.ensures c.in_ok-from_slice.ensures c.in_ok-rows.ensures c.in_ok-new.ensures
