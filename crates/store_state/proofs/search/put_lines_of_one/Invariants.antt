use Rattle.std.proofs.Common.{ℕ, [], ◌<◌, ◌≤◌, length, slice_index_or}
use Rattle.std.specs.Prelude.{◌≤ℤ◌}
use Rattle.store_state.specs.Keys.{order_key}
use Rattle.store_state.proofs.Searches.{AddsUntil}
use Rattle.store_state.proofs.search.put_lines_of_one.Given as goal

abbrev pub invariant-loop-i : goal.invariant-loop-i
invariant-loop-i l =
    (l.i ≤ length l.segment)
    × AddsUntil l.key l.deleted l.segment l.initial.lines.items l.i l.lines.items
    × ((p : ℕ) → l.i ≤ p → p < length l.segment → l.key ≤ℤ order_key (slice_index_or l.segment p []))
