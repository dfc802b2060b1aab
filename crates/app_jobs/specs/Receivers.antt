-- What runs beside two senders, and what these send.
use Rattle.std.specs.Prelude.{◌≡◌, ◌<◌, ◌≤◌, ◌+◌, Option, length}
use Rattle.base_schema.specs.State.{State}
use Rattle.store_gateway.specs.Roles.{Sending}
use Rattle.store_gateway.specs.declared.message.SenderId.TheVariants.{First, Second}
use Rattle.store_gateway.specs.declared.gateway_feed.GatewayFeed.{GatewayFeed}
use Rattle.app_job_file.specs.Files.{most_sessions}
use Rattle.app_sessions.specs.Asked.{AllUnasked, job_sessions}
use Rattle.app_sessions.specs.Jobs.{JobAnswer}
use Rattle.app_jobs.specs.Senders.{EndsAfter, IsTakenText, MaySend, MayTake, TakesAll}
use Rattle.app_jobs.specs.declared.senders.Receiver.{Receiver}
use Rattle.app_jobs.specs.declared.senders.Senders.{Senders}

-- each of the senders may send its refreshes
pub record MaySendBoth (senders : Senders) : Type 0 where
  pub first : MaySend senders.first senders.firsts.items
  pub second : MaySend senders.second senders.seconds.items

-- both have ended, and sent just these
pub record BothEnd (senders : Senders) (ended : Sending × Sending) : Type 0 where
  pub first : EndsAfter senders.first senders.firsts.items ended.0
  pub second : EndsAfter senders.second senders.seconds.items ended.1

-- sessions that can run beside a publisher of a list and of what a taker takes, over a base for which
-- what is attached is right
pub record CanReceive {A : Type 0} (is_right : A → State → Type 0) (receiver : Receiver A)
    : Type 0 where
  pub right : is_right receiver.attachment receiver.base
  pub some : 0 < length receiver.sessions.items
  pub few : length receiver.sessions.items ≤ most_sessions
  pub unasked : AllUnasked receiver.sessions.items
  pub taker : MayTake receiver.feed.taker receiver.list.items receiver.most

-- they have run, and all was taken
pub record HasReceived {A : Type 0} (receiver : Receiver A) (text : Option JobAnswer)
    (feed : GatewayFeed A) : Type 0 where
  pub text_is : IsTakenText receiver.base receiver.list.items receiver.most
      (job_sessions receiver.sessions.items) feed.taker text
  pub taken : TakesAll receiver.feed.taker feed.taker

-- both senders are of the taker's gateway, and all that they send makes up the receiver's refreshes
pub record AreOfOneGateway {A : Type 0} (senders : Senders) (receiver : Receiver A) : Type 0 where
  pub gateways : (senders.first.gateway ≡ receiver.feed.taker.gateway)
      × (senders.second.gateway ≡ receiver.feed.taker.gateway)
  pub ids : (senders.first.id ≡ First) × (senders.second.id ≡ Second)
  pub most : length receiver.list.items
      + (length senders.firsts.items + length senders.seconds.items) ≡ receiver.most
