-- The order in which a job tries refreshes.
use Rattle.std.specs.Prelude.{ℕ, ◌+◌, List, ◌++◌, Option, length, map, take}
use Rattle.store_snapshots.specs.Turns.{from_nobody}
use Rattle.store_state.specs.Prefixes.{IsPrefix}
use Rattle.store_state.specs.Refresh.{Change}
use Rattle.store_versions.specs.Trials.{Trials}

-- Refreshes in the order in which they are tried, each with the number of the sender that it comes
-- from. Those of an opening's list come from no sender.
abbrev pub RefreshOrder : Type 0
RefreshOrder = List (Option ℕ × Change)

-- the list of an order's refreshes
abbrev pub changes_of : RefreshOrder → List Change
changes_of order = map (λ entry. entry.1) order

-- a version of which so many refreshes more were tried
abbrev pub later_by : ℕ → Trials → Trials
later_by count version = record version { done = version.done + count }

-- the order of all that is done: the refreshes of the list that were done at a version, then those
-- that were tried since
abbrev pub whole_order : Trials → RefreshOrder → RefreshOrder
whole_order start order = from_nobody (take start.done start.list) ++ order

-- the version at which these refreshes were tried since another one, and none is left to try
abbrev pub version_at_end : Trials → RefreshOrder → Trials
version_at_end start order = record start {
  list = changes_of (whole_order start order);
  done = length (changes_of (whole_order start order));
}

-- a feed that tried these refreshes since a version, whose list is the beginning of all that was
-- tried, stands at its end, and fits the version then
pub record EndsFeed (fits is_over : Trials → Type 0) (start : Trials) (order : RefreshOrder)
    : Type 0 where
  pub list : IsPrefix start.list (changes_of (whole_order start order))
  pub fitting : fits (version_at_end start order)
  pub over : is_over (version_at_end start order)
