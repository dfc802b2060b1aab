use Rattle.std.proofs.Common.{arith}
use Rattle.store_versions.proofs.Neighbours.{has-room, made-room}
use Rattle.store_versions.proofs.joining.make_room.Goals as goal

pub returns-then-len-count-le-SEGMENT_ROWS : goal.returns-then-len-count-le-SEGMENT_ROWS
returns-then-len-count-le-SEGMENT_ROWS c = record {
  room = has-room c.args.count c.args.full.now.items c.args.rest.now c.requires.joining
      (omega (arith, c.if-len-count-le-SEGMENT_ROWS.true, c.len.ensures));
}

pub returns : goal.returns
returns c = record {
  room = made-room c.args.count c.args.full.now.items c.args.rest.now c.close_rest.new.full.items
      c.close_rest.new.rest c.requires.joining c.requires.count
      (omega (arith, c.if-len-count-le-SEGMENT_ROWS.false, c.len.ensures))
      c.in_ok-close_rest.ensures.full c.in_ok-close_rest.ensures.rest
      c.in_ok-close_rest.ensures.width;
}
