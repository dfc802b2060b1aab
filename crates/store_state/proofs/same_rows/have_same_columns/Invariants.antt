use Rattle.std.proofs.Common.{◌≡◌, ℕ, ◌<◌}
use Rattle.base_columns.specs.Batches.{column_at}
use Rattle.store_state.proofs.same_rows.have_same_columns.Given as goal

abbrev pub invariant-loop-j : goal.invariant-loop-j
invariant-loop-j l = (i : ℕ) → i < l.j → column_at l.first.rows i ≡ column_at l.second.rows i
