use Rattle.std.proofs.Common.{◌≡◌, ◌<◌, drop, length}
use Rattle.app_sessions.specs.Workers.{AreAssigned, place_of}
use Rattle.app_sessions.proofs.JobDeals.{IsFilled}
use Rattle.app_sessions.proofs.workers.assign_sessions.Given as goal

abbrev pub invariant-assigning : goal.invariant-assigning
invariant-assigning g l =
    record {
      rest : l.sessions.items ≡ drop l._k l.fn.sessions.items;
      turn : l.turn ≡ (place_of (length l.fn.workers) l._k).0;
      within : l.turn < length l.workers;
      filled : IsFilled l.workers (place_of (length l.fn.workers) l._k);
      assigned : AreAssigned l.fn.sessions.items l.fn.workers l.workers l._k;
    }
