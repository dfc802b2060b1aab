use Rattle.std.proofs.Common.{◌∙◌}
use Rattle.store_state.specs.Keys.{order_keys}
use Rattle.store_state.proofs.FoundKeys.{orders_alike}
use Rattle.store_state.proofs.applied.cause_of_orders.Goals as goal

pub returns : goal.returns
returns c =
    let tells = rw c.table.ensures.rows at c.in_ok-present.ensures in
    c.in_ok-cause.ensures ∙ orders_alike (order_keys c.args.state.now.orders) c.in_ok-present.present c.args.keys.now c.args.wanted.now c.requires tells
