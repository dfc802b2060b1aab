use Rattle.std.proofs.Common.{◌≡◌, ℕ, ◌<◌, false, slice_index_or}
use Rattle.app_sessions.proofs.closing.is_any_lost.Given as goal

abbrev pub invariant-asking : goal.invariant-asking
invariant-asking g l = (i : ℕ) (w : _) → i < l.worker-index → (slice_index_or l.workers i w).is_lost ≡ false
