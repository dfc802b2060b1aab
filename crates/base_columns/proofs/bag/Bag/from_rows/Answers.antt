use Rattle.std.proofs.Common.{◌∙◌, ap, sym}
use Rattle.base_columns.proofs.BagLists.{segment_wide}
use Rattle.base_columns.proofs.bag.Bag.from_rows.Goals as goal

pub push-requires : goal.push-requires
push-requires c =
    ap (λ b. b.width) c.in_ok-batch.ensures
    ∙ segment_wide c.args.rows.now c.segments-segments.result.now c.loop-segment.segment-index c.args.width c.batch.result.now.width c.segment-item.result
    c.segments-segments.ensures c.requires c.loop-segment-test.true c.segment-item.is c.batch.ensures.some c.batch.ensures.width
    ∙ sym c.loop-segment.invariant.0
