use Rattle.std.proofs.Common.{◌≡◌, [], ◌+◌, ◌-◌, ◌/◌, ◌<◌, length, slice_index_or, arith, w64, to_z, of_z}
use Rattle.std.specs.Prelude.{◌<ℤ◌, ◌≤ℤ◌}
use Rattle.std.proofs.lemmas.Int.{ints}
use Rattle.store_state.specs.Keys.{order_key}
use Rattle.store_state.proofs.Searches.{lower_half, upper_half}
use Rattle.store_state.proofs.search.first_at_least.Goals as goal

pub loop-low-preserved-then-number_at-key : goal.loop-low-preserved-then-number_at-key
loop-low-preserved-then-number_at-key c =
    let inv = c.loop-low.invariant in
    let rows = c.args.segment.now in
    let key = to_z w64 (of_z w64 c.args.key) in
    let same : key ≡ c.args.key = omega (arith, ints) in
    let middle = c.loop-low.low + (c.loop-low.high - c.loop-low.low) / 2 in
    let within : middle < length rows = omega (arith, inv.0, inv.1, c.loop-low-test.true) in
    let below : order_key (slice_index_or rows middle []) <ℤ key = omega (arith, ints, same, c.number_at.ensures, c.if-number_at-key.true) in
    (omega (arith, inv.0, c.loop-low-test.true), inv.1, lower_half rows key middle c.requires within below, inv.3)

pub loop-low-preserved : goal.loop-low-preserved
loop-low-preserved c =
    let inv = c.loop-low.invariant in
    let rows = c.args.segment.now in
    let key = to_z w64 (of_z w64 c.args.key) in
    let same : key ≡ c.args.key = omega (arith, ints) in
    let middle = c.loop-low.low + (c.loop-low.high - c.loop-low.low) / 2 in
    let above : key ≤ℤ order_key (slice_index_or rows middle []) = omega (arith, ints, same, c.number_at.ensures, c.if-number_at-key.false) in
    (omega (arith, inv.0, c.loop-low-test.true), omega (arith, inv.0, inv.1, c.loop-low-test.true), inv.2, upper_half rows key middle c.requires above)
