use Rattle.std.proofs.Common.{◌≤◌, ℤ, pos, List, length, get_or, subst, arith, refl}
use Rattle.std.proofs.lemmas.List.{take_all}
use Rattle.store_state.specs.Found.{AddsKeys}
use Rattle.store_state.specs.Keys.{has_key, order_keys}
use Rattle.store_state.specs.Parts.{left_rows}
use Rattle.store_state.proofs.Searches.{keys_more}
use Rattle.store_state.proofs.search.put_orders_of.Goals as goal

pub loop-key-preserved : goal.loop-key-preserved
loop-key-preserved c =
    let keys = order_keys (left_rows c.args.deleted.now c.args.segment.now) in
    let key = get_or c.args.wanted.now c.loop-key.key-index (pos 0) in
    keys_more c.args.wanted.now keys c.args.keys.now.items c.loop-key.keys.items c.put_order_of.new.keys.items c.loop-key.key-index (has_key keys key)
    c.loop-key-test.true refl c.in_ok-put_order_of.ensures c.loop-key.invariant

pub returns : goal.returns
returns c =
    let keys = order_keys (left_rows c.args.deleted.now c.args.segment.now) in
    let all : length c.args.wanted.now ≤ c.loop-key.key-index = omega arith in
    subst (λ (w : List ℤ). AddsKeys w keys c.args.keys.now.items c.loop-key.keys.items) (take_all c.loop-key.key-index c.args.wanted.now all) c.loop-key.invariant
