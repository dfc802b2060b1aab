use Rattle.std.proofs.Common.{◌≡◌, ℕ, ◌<◌, ◌≤◌, List, length, take}
use Rattle.store_state.specs.Refresh.{Change}
use Rattle.base_schema.specs.State.{State}
use Rattle.app_sessions.specs.Gathered.{IsSessionsText}
use Rattle.app_sessions.specs.Jobs.{JobSession}
use Rattle.app_sessions.specs.Workers.{IsNumberOver, IsPlaced, place_of, sessions_of}
use Rattle.app_sessions.proofs.job_text.gather.Given as goal

abbrev pub invariant-gathering : goal.invariant-gathering
invariant-gathering g l =
    record {
      turn : l.turn ≡ (place_of (length l.fn.workers) l.k).0;
      round : l.round ≡ (place_of (length l.fn.workers) l.k).1;
      few : l.round ≤ l.k;
      gathered :
          (o : State × List Change) (low high : ℕ) (all : List JobSession) → length all ≡ l.fn.count
          → ((k : ℕ) → k < l.fn.count → IsPlaced sessions_of l.fn.workers (place_of (length l.fn.workers) k) (IsNumberOver o low high all k))
          → IsSessionsText o low high (take l.k all) l.text;
    }
