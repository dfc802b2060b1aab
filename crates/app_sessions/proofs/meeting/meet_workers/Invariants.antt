use Rattle.std.proofs.Common.{◌≡◌, ℕ, ◌<◌, ◌≤◌, length, slice_index_or}
use Rattle.store_snapshots.specs.Ruled.{list_fits}
use Rattle.app_sessions.specs.Workers.{HasMet}
use Rattle.app_sessions.proofs.meeting.meet_workers.Given as goal

abbrev pub invariant-meeting : goal.invariant-meeting
invariant-meeting g l =
    record {
      len : length l.workers ≡ length l.fn.workers;
      met : (k : ℕ) (d : _) → k < l.i → k < length l.fn.workers
          → HasMet list_fits l.publisher.shown.list (slice_index_or l.fn.workers k d) (slice_index_or l.workers k d);
      rest : (k : ℕ) (d : _) → l.i ≤ k → k < length l.fn.workers → slice_index_or l.workers k d ≡ slice_index_or l.fn.workers k d;
    }
