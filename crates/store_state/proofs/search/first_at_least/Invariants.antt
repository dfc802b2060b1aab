use Rattle.std.proofs.Common.{ℕ, [], ◌-◌, ◌<◌, ◌≤◌, length, slice_index_or}
use Rattle.std.specs.Prelude.{◌<ℤ◌, ◌≤ℤ◌}
use Rattle.store_state.specs.Keys.{order_key}
use Rattle.store_state.proofs.search.first_at_least.Given as goal

abbrev pub invariant-loop-low : goal.invariant-loop-low
invariant-loop-low l =
    (l.low ≤ l.high)
    × (l.high ≤ length l.segment)
    × ((i : ℕ) → i < l.low → order_key (slice_index_or l.segment i []) <ℤ l.key)
    × ((i : ℕ) → l.high ≤ i → i < length l.segment → l.key ≤ℤ order_key (slice_index_or l.segment i []))

abbrev pub decreases-loop-low : goal.decreases-loop-low
decreases-loop-low l = l.high - l.low
