-- What the calls of the gateway answer.
use Rattle.std.specs.Prelude.{◌≡◌}
use Rattle.store_refresh_entries.specs.Change.{MayBeStored}
use Rattle.store_state.specs.Refresh.{Change}
use Rattle.store_gateway.specs.Roles.{Sending, Taking, WasFull, ended_too, sent_more, taken_more}
use Rattle.store_gateway.specs.declared.taker.Took.{Took as TookAnswer}
use Rattle.store_gateway.specs.declared.taker.Took.TheVariants.{Took, EndOf, Empty}
use Rattle.store_gateway.specs.declared.sender.End.{End as EndAnswer}
use Rattle.store_gateway.specs.declared.sender.End.TheVariants.{Ended, Full as EndFull}
use Rattle.store_gateway.specs.declared.sender.Sent.{Sent as SentAnswer}
use Rattle.store_gateway.specs.declared.sender.Sent.TheVariants.{Sent, Full}

-- The refresh was sent, or the queue was full: then it comes back and the sender is as before.
abbrev pub SendsRefresh : Sending → Sending → Change → SentAnswer → Type 0
SendsRefresh old new refresh Sent = new ≡ sent_more refresh old
SendsRefresh old new refresh (Full back) = (back ≡ refresh) × (new ≡ old) × WasFull old

-- The sender has ended and knows what it sent, or the queue was full and it comes back as it was.
abbrev pub SendsEnd : Sending → EndAnswer → Type 0
SendsEnd old (Ended new) = new ≡ old
SendsEnd old (EndFull back) = (back ≡ old) × WasFull old

-- the sender has ended
abbrev pub HasEnded : EndAnswer → Type 0
HasEnded (Ended new) = Unit {0}
HasEnded (EndFull back) = ⊥

-- A refresh or an end was taken and is noted, or nothing was taken and all is as before.
abbrev pub TakesMessage : Taking → Taking → TookAnswer → Type 0
TakesMessage old new (Took id refresh) = new ≡ taken_more id refresh old
TakesMessage old new (EndOf id) = new ≡ ended_too id old
TakesMessage old new Empty = new ≡ old

-- a refresh that was taken may come to be stored
abbrev pub TookStorable : TookAnswer → Type 0
TookStorable (Took id refresh) = MayBeStored refresh
TookStorable (EndOf id) = Unit {0}
TookStorable Empty = Unit {0}
