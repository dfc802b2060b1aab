use Rattle.std.proofs.Common.{◌∙◌, ◌++◌, ap}
use Rattle.expr_conditions.specs.Ranks.{columns_from}
use Rattle.plan_join_order.proofs.LateralSteps.{list_made}
use Rattle.plan_join_order.proofs.lateral.list_above.Goals as goal

pub returns : goal.returns
returns c =
    list_made c.args.n c.args.width c.args.places.now _ c.args.es.now c.in_ok-list.list
    c.in_ok-more.more c.append.new.self
    (c.deref.ensures.value ∙ c.in_ok-put_run.ensures
    ∙ ap (λ l. l ++ columns_from 0 c.args.width) c.new-own.ensures.items)
    c.in_ok-list.ensures c.in_ok-more.ensures c.in_ok-append.ensures
