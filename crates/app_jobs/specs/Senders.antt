-- What two senders send beside the sessions of a job.
use Rattle.std.specs.Prelude.{◌≡◌, ◌<◌, ◌≤◌, ◌+◌, ℕ, true, List, [], ◌++◌, length}
use Rattle.std.specs.Prelude.{Option, None, Some}
use Rattle.std.specs.List.{AllByRecursion}
use Rattle.base_schema.specs.State.{State}
use Rattle.store_gateway.specs.Feeds.{gateway_name, numbered}
use Rattle.store_gateway.specs.Queue.{pick}
use Rattle.store_gateway.specs.Roles.{Sending, Taking, sent_by}
use Rattle.store_gateway.specs.declared.message.SenderId.{SenderId}
use Rattle.store_gateway.specs.declared.message.SenderId.TheVariants.{First, Second}
use Rattle.store_snapshots.specs.Turns.{from_nobody}
use Rattle.store_refresh_entries.specs.Change.{MayBeStored}
use Rattle.store_state.specs.Refresh.{Change}
use Rattle.app_sessions.specs.Jobs.{IsOrderText, JobAnswer, JobSession}
use Rattle.app_sessions.specs.Orders.{RefreshOrder}

-- a sender that sent nothing yet, and whose quota lets it send these refreshes, which may come to
-- be stored
pub record MaySend (sender : Sending) (refreshes : List Change) : Type 0 where
  pub fresh : sender.sent ≡ []
  pub quota : length refreshes ≤ pick sender.id sender.quotas
  pub storable : AllByRecursion MayBeStored refreshes

-- it has ended, and sent just these refreshes
pub record EndsAfter (sender : Sending) (refreshes : List Change) (ended : Sending) : Type 0 where
  pub gateway : ended.gateway ≡ sender.gateway
  pub id : ended.id ≡ sender.id
  pub sent : ended.sent ≡ refreshes

-- A taker that took nothing yet, of senders that may send so many refreshes that these and those of
-- a list are `most`.
pub record MayTake (taker : Taking) (list : List Change) (most : ℕ) : Type 0 where
  pub fresh : taker.taken ≡ []
  pub room : length list + (taker.quotas.0 + taker.quotas.1) ≡ most

-- the taker of that gateway has taken the ends of both senders
pub record TakesAll (old new : Taking) : Type 0 where
  pub name : gateway_name new.gateway ≡ gateway_name old.gateway
  pub ended : new.ended ≡ (true, true)

-- the refreshes of a list, and then those that were sent, each from its sender
abbrev pub order_sent : List Change → List (SenderId × Change) → RefreshOrder
order_sent list sent = from_nobody list ++ numbered sent

-- the text of a job stands over the order in which a taker took what was sent; or it took too few
-- refreshes, and there is none
abbrev pub IsTakenText : State → List Change → ℕ → List JobSession → Taking → Option JobAnswer
    → Type 0
IsTakenText base list most sessions taker None = length (order_sent list taker.taken) < most
IsTakenText base list most sessions taker (Some job) =
    IsOrderText base (order_sent list taker.taken) 0 (length list) sessions job

-- the text of a job beside two senders that sent these refreshes after a list, in some order that
-- keeps each sender's own
pub record IsSentText (base : State) (list firsts seconds : List Change)
    (sessions : List JobSession) (job : JobAnswer) : Type 0 where
  pub sent : List (SenderId × Change)
  pub first : sent_by First sent ≡ firsts
  pub second : sent_by Second sent ≡ seconds
  pub text : IsOrderText base (order_sent list sent) 0 (length list) sessions job
