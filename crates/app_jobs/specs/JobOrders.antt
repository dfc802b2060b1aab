-- The orders in which the refreshes of a job may be tried.
use Rattle.std.specs.Prelude.{◌≡◌, ◌-◌, ℕ, List, ◌++◌, drop, length, take}
use Rattle.std.specs.List.{zip}
use Rattle.app_sessions.specs.Orders.{RefreshOrder}
use Rattle.store_gateway.specs.Feeds.{numbered}
use Rattle.store_gateway.specs.Roles.{sent_by}
use Rattle.store_gateway.specs.declared.message.SenderId.{SenderId}
use Rattle.store_gateway.specs.declared.message.SenderId.TheVariants.{First, Second}
use Rattle.store_snapshots.specs.Turns.{from_nobody}
use Rattle.store_state.specs.Refresh.{Change}
use Rattle.app_jobs.specs.Works.{JobWork}

-- how many refreshes of a job nobody sends
abbrev pub unsent_count : JobWork → ℕ
unsent_count work = length work.list - length work.senders

-- these, in the order of the job's lines
abbrev pub unsent_of : JobWork → List Change
unsent_of work = take (unsent_count work) work.list

-- the refreshes of a job that are sent, each with its sender, in the order of the job's lines
abbrev pub sent_of : JobWork → List (SenderId × Change)
sent_of work = zip work.senders (drop (unsent_count work) work.list)

-- Refreshes in an order in which a job may try its own: first those that nobody sends, in the order
-- of the job's lines, and then each that is sent, once. Of those that one sender sends each comes
-- in its turn, as the job's lines have them.
pub record IsJobOrder (work : JobWork) (order : RefreshOrder) : Type 0 where
  pub sent : List (SenderId × Change)
  pub whole : order ≡ from_nobody (unsent_of work) ++ numbered sent
  pub first : sent_by First sent ≡ sent_by First (sent_of work)
  pub second : sent_by Second sent ≡ sent_by Second (sent_of work)
