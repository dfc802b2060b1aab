use Rattle.std.proofs.Common.{List, ℤ, subst, sym, take}
use Rattle.base_columns.specs.Lists.{one_list}
use Rattle.store_state.specs.Found.{TellsKeys}
use Rattle.store_state.specs.Keys.{order_keys}
use Rattle.store_state.proofs.PartLists.{order_keys_more}
use Rattle.store_state.proofs.found.orders_found.Goals as goal

pub loop-part-preserved : goal.loop-part-preserved
loop-part-preserved c =
    let parts = c.as_slice-parts.result.now in
    let k = c.loop-part.part-index in
    let part = c.part-item.result in
    let before = order_keys (one_list (take k parts)) in
    subst (λ (ks : List (ℤ)). TellsKeys c.args.wanted.now ks c.find_part_orders.new.found) (sym (order_keys_more parts k part c.loop-part-test.true c.part-item.is))
    (c.in_ok-find_part_orders.ensures before c.loop-part.invariant)
