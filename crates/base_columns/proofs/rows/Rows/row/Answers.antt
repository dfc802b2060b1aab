use Rattle.std.proofs.Common.{◌≡◌, ◌<◌, ◌≤◌, [], ap, sym, length, arith}
use Rattle.base_columns.specs.Lists.{one_list}
use Rattle.base_columns.proofs.RowLists.{row_found, row_passed, row_within}
use Rattle.base_columns.proofs.rows.Rows.row.Goals as goal

pub loop-segment-preserved : goal.loop-segment-preserved
loop-segment-preserved c =
    let past : length c.segment-item.result ≤ c.loop-segment.left = omega (arith, c.len.ensures.value, c.if-left-len.false) in
    rw c.len-left.ensures.value
    (row_passed c.as_slice-segments.result.now c.loop-segment.segment-index c.args.i c.loop-segment.left c.segment-item.result c.loop-segment-test.true c.loop-segment.invariant past c.segment-item.is)

pub returns : goal.returns
returns c =
    let end : c.loop-segment.segment-index ≡ length c.as_slice-segments.result.now = omega (arith, c.loop-segment-test.false, c.loop-segment.auto.segment-index-end) in
    let short : length (one_list c.as_slice-segments.result.now) ≤ c.args.i = row_within c.as_slice-segments.result.now c.args.i c.loop-segment.left (rw end at c.loop-segment.invariant) in
    let seen : c.args.self.now ≡ one_list c.as_slice-segments.result.now = rw c.as_slice-segments.ensures.value (sym c.self.view_is) in
    absurd (omega (arith, short, ap length seen, c.requires))

pub returns-then-left-len : goal.returns-then-left-len
returns-then-left-len c =
    let seen : c.args.self.now ≡ one_list c.as_slice-segments.result.now = rw c.as_slice-segments.ensures.value (sym c.self.view_is) in
    let within : c.loop-segment.left < length c.segment-item.result = omega (arith, c.len.ensures.value, c.if-left-len.true) in
    rw (row_found c.args.self.now c.as_slice-segments.result.now [] c.loop-segment.segment-index c.args.i c.loop-segment.left c.segment-item.result seen c.loop-segment-test.true c.loop-segment.invariant within c.segment-item.is)
    c.row.ensures
