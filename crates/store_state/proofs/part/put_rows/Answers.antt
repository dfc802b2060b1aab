use Rattle.std.proofs.Common.{◌<◌, length, arith}
use Rattle.store_state.proofs.LeftRows.{rows_begin, rows_more}
use Rattle.store_state.proofs.part.put_rows.Goals as goal

pub loop-i-init : goal.loop-i-init
loop-i-init c = rows_begin c.args.rows.now.items c.args.deleted.now

pub loop-i-preserved : goal.loop-i-preserved
loop-i-preserved c =
    let less : c.loop-i.i < length c.args.segment.now = omega arith in
    rows_more c.args.deleted.now c.args.segment.now c.args.rows.now.items c.loop-i.rows.items c.put_row.new.rows.items c.loop-i.i less
    c.in_ok-put_row.ensures c.loop-i.invariant
