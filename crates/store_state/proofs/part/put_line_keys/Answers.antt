use Rattle.std.proofs.Common.{◌<◌, length, arith}
use Rattle.store_state.specs.Keys.{line_key}
use Rattle.store_state.proofs.LeftRows.{made_begin, made_more}
use Rattle.store_state.proofs.part.put_line_keys.Goals as goal

pub loop-i-init : goal.loop-i-init
loop-i-init c = made_begin line_key c.args.keys.now.items c.args.deleted.now

pub loop-i-preserved : goal.loop-i-preserved
loop-i-preserved c =
    let less : c.loop-i.i < length c.args.segment.now = omega arith in
    made_more line_key c.args.deleted.now c.args.segment.now c.args.keys.now.items c.loop-i.keys.items c.put_line_key.new.keys.items c.loop-i.i less
    c.in_ok-put_line_key.ensures c.loop-i.invariant
