-- The text of a job in an order of its refreshes.
use Rattle.std.specs.Prelude.{◌++◌, ℕ, List, length, Option}
use Rattle.app_sessions.specs.Jobs.{IsOrderText, JobAnswer, JobSession}
use Rattle.app_sessions.specs.Orders.{RefreshOrder, changes_of}
use Rattle.app_jobs.specs.Works.{JobWork}
use Rattle.app_jobs.specs.JobOrders.{IsJobOrder}
use Rattle.app_jobs.specs.Journals.{HoldsThen}
use Rattle.store_snapshots.specs.Turns.{from_nobody}
use Rattle.store_state.specs.Refresh.{Change}
use Rattle.store_state.specs.Versions.{taken}

-- all refreshes of a job that are tried in this order, behind those that its journal keeps
abbrev pub whole_list : JobWork → RefreshOrder → List Change
whole_list work order = work.kept ++ changes_of order

-- The text of these sessions beside the refreshes of a job, for the order of the refreshes and the
-- versions that the run chose. Those that its journal keeps are done before, and in the end it
-- holds all accepted ones.
pub record IsTextInOrder (work : JobWork) (journal_then : Option (List ℕ))
    (sessions : List JobSession) (job : JobAnswer) : Type 0 where
  pub order : RefreshOrder
  pub allowed : IsJobOrder work order
  pub text : IsOrderText work.base (from_nobody work.kept ++ order) (length work.kept) work.before
      sessions job
  pub stored : HoldsThen work.journal (taken work.base (whole_list work order)) journal_then
