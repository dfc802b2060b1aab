use Rattle.std.proofs.Common.{◌<◌, length, arith}
use Rattle.store_state.specs.Keys.{order_key}
use Rattle.store_state.proofs.LeftRows.{made_begin, made_more}
use Rattle.store_state.proofs.part.put_order_keys.Goals as goal

pub loop-i-init : goal.loop-i-init
loop-i-init c = made_begin order_key c.args.keys.now.items c.args.deleted.now

pub loop-i-preserved : goal.loop-i-preserved
loop-i-preserved c =
    let less : c.loop-i.i < length c.args.segment.now = omega arith in
    made_more order_key c.args.deleted.now c.args.segment.now c.args.keys.now.items c.loop-i.keys.items c.put_order_key.new.keys.items c.loop-i.i less
    c.in_ok-put_order_key.ensures c.loop-i.invariant
