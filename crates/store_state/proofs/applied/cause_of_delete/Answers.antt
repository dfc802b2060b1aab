use Rattle.std.proofs.Common.{◌∙◌}
use Rattle.store_state.specs.Keys.{order_keys}
use Rattle.store_state.proofs.FoundKeys.{deletes_alike}
use Rattle.store_state.proofs.applied.cause_of_delete.Goals as goal

pub returns : goal.returns
returns c =
    let tells = rw c.table.ensures.rows at c.in_ok-present.ensures in
    c.in_ok-cause.ensures ∙ deletes_alike (order_keys c.args.state.now.orders) c.in_ok-present.present c.args.keys.now c.args.wanted.now c.requires tells
