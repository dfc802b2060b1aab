-- A job that has started: what its sessions and its publisher begin with.
use Rattle.std.specs.Prelude.{◌≡◌, ℕ, ◌+◌, ◌≤◌, List, ◌++◌, length}
use Rattle.store_snapshots.specs.Publishers.{Edition}
use Rattle.store_snapshots.specs.Ruled.{list_fits, opening_of}
use Rattle.store_snapshots.specs.declared.ruled.RuledEntry.{RuledEntry}
use Rattle.store_versions.specs.Trials.{Trials}
use Rattle.store_state.specs.Versions.{accepted}
use Rattle.app_sessions.specs.Gathered.{ArePrepared}
use Rattle.app_sessions.specs.Orders.{RefreshOrder}
use Rattle.app_sessions.specs.Reports.{HasTried, IsTold}
use Rattle.app_sessions.specs.declared.forking.JobRun.{JobRun}
use Rattle.app_sessions.specs.declared.session.Session.{Session}

-- The run began at a version with these sessions, whose readers were told of `before` refreshes
-- more. Its publisher tried these refreshes since: the first ones, and those that its feed tried.
pub record HasStarted {A N B : Type 0} (run : JobRun (RuledEntry A) N B) (publisher : Edition)
    (tried : RefreshOrder) : Type 0 where
  pub start : Trials
  pub before : ℕ
  pub sessions : List Session
  pub first : RefreshOrder
  pub places : start.done + before ≤ length start.list
  pub prepared : ArePrepared opening_of list_fits start
      (accepted start.base start.list (start.done + before)) sessions run.workers.items
  pub tries : HasTried start publisher (first ++ tried)
  pub told : IsTold start (first ++ tried) run.report
  pub listed : run.listed ≡ length start.list
  pub count : run.count ≡ length sessions
