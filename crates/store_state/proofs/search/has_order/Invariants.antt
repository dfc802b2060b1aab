use Rattle.std.proofs.Common.{◌≡◌, false, ℕ, [], ◌<◌, ◌≤◌, length, take, slice_index_or}
use Rattle.std.specs.Prelude.{◌≤ℤ◌}
use Rattle.std.specs.List.{list_any}
use Rattle.store_state.specs.Keys.{order_key}
use Rattle.store_state.specs.Parts.{left_rows}
use Rattle.store_state.proofs.Searches.{order_test}
use Rattle.store_state.proofs.search.has_order.Given as goal

abbrev pub invariant-loop-i : goal.invariant-loop-i
invariant-loop-i l =
    (l.i ≤ length l.segment)
    × (list_any (order_test l.key) (left_rows l.deleted (take l.i l.segment)) ≡ false)
    × ((p : ℕ) → l.i ≤ p → p < length l.segment → l.key ≤ℤ order_key (slice_index_or l.segment p []))
