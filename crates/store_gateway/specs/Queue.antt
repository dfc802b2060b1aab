-- The rule over the queue of two senders and a taker: what it holds, and what each of them knows.
use Rattle.std.specs.Prelude.{◌≡◌, ◌⊎◌, ⊤, ℕ, ◌+◌, ◌≤◌, Bool, true, false, List, [], ◌∷◌, ◌++◌}
use Rattle.std.specs.Prelude.{length, filter, Option, Some, None}
use Rattle.std.specs.Option.{ForSome}
use Rattle.std.specs.List.{All}
use mathlib.Core.Option.{some}
use lib.ListN.{get_elem?}
use Rattle.store_refresh_entries.specs.Change.{MayBeStored}
use Rattle.store_state.specs.Refresh.{Change}
use Rattle.store_gateway.specs.declared.message.SenderId.{SenderId}
use Rattle.store_gateway.specs.declared.message.SenderId.TheVariants.{First, Second}
use Rattle.store_gateway.specs.declared.message.Message.{Message}
use Rattle.store_gateway.specs.declared.message.Message.TheVariants.{Quotas, Refresh, End}
use Rattle.store_gateway.specs.declared.queue.QueueView.{QueueView}

-- of a pair, the part of one sender
abbrev pub pick : {A : Type 0} → SenderId → A × A → A
pick First pair = pair.0
pick Second pair = pair.1

-- a pair with another part for one sender
abbrev pub place : {A : Type 0} → SenderId → A → A × A → A × A
place First x pair = (x, pair.1)
place Second x pair = (pair.0, x)

-- whether two names of senders are the same
abbrev pub is_same_sender : SenderId → SenderId → Bool
is_same_sender First First = true
is_same_sender First Second = false
is_same_sender Second First = false
is_same_sender Second Second = true

-- whether a message is from this sender
abbrev pub is_from : SenderId → Message → Bool
is_from id (Quotas a b) = false
is_from id (Refresh other r) = is_same_sender id other
is_from id (End other) = is_same_sender id other

-- a message is from one of the senders, and its refresh may come to be stored
abbrev pub IsSent : Message → Type 0
IsSent (Quotas a b) = ⊥
IsSent (Refresh other r) = MayBeStored r
IsSent (End other) = ⊤

-- the messages from one sender, in order
abbrev pub messages_of : SenderId → List Message → List Message
messages_of id ms = filter (is_from id) ms

-- the refresh of a message with its sender, if it has one
abbrev pub refresh_in : Message → List (SenderId × Change)
refresh_in (Quotas a b) = []
refresh_in (Refresh id r) = (id, r) ∷ []
refresh_in (End id) = []

-- the refreshes of messages, in order, each with its sender
abbrev pub refreshes_in : List Message → List (SenderId × Change)
refreshes_in [] = []
refreshes_in (m ∷ ms) = refresh_in m ++ refreshes_in ms

-- a list of messages with one more at its end, where the list is known
abbrev pub one_more : Message → Option (List Message) → Option (List Message)
one_more m None = None
one_more m (Some ms) = Some (ms ++ m ∷ [])

-- A pass knows the truth: the quotas, what a sender sent if it is this sender's pass, and what was
-- taken if it is the taker's.
pub record IsTrueView (quotas seats : ℕ × ℕ) (taker : ℕ) (sent : List Message × List Message)
    (taken : List Message) (port : ℕ) (v : QueueView) : Type 0 where
  pub going : v.opening ≡ false
  pub quota : ForSome v.quotas (λ q. q ≡ quotas)
  pub sender : (id : SenderId) → ForSome (pick id v.sent)
      (λ ms. (port ≡ pick id seats) × (ms ≡ pick id sent))
  pub taking : ForSome v.taken (λ ms. (port ≡ taker) × (ms ≡ taken))

-- all passes know the truth
abbrev pub AreTrueViews : ℕ × ℕ → ℕ × ℕ → ℕ → List Message × List Message → List Message
    → List QueueView → Type 0
AreTrueViews quotas seats taker sent taken views = (port : ℕ) (v : QueueView)
    → get_elem? views port ≡ some v → IsTrueView quotas seats taker sent taken port v

-- The senders may send: what was taken of each one and then what the queue holds of it is what it
-- sent, in its order. It sent no more refreshes than its quota, and one message more than that.
pub record IsRunning (items : List Message) (views : List QueueView) : Type 0 where
  pub quotas : ℕ × ℕ
  pub seats : ℕ × ℕ
  pub taker : ℕ
  pub sent : List Message × List Message
  pub taken : List Message
  pub whole : (id : SenderId) → messages_of id (taken ++ items) ≡ pick id sent
  pub few : (id : SenderId) → length (pick id sent) ≤ pick id quotas + 1
  pub short : (id : SenderId) → length (refreshes_in (pick id sent)) ≤ pick id quotas
  pub of_senders : All IsSent items
  pub each : AreTrueViews quotas seats taker sent taken views

-- what the first pass knows
abbrev pub first_view : QueueView
first_view = record { opening = true; quotas = None; sent = (Some [], Some []); taken = Some [] }

-- what the first pass knows once it has put the quotas into the queue
abbrev pub named_view : ℕ → ℕ → QueueView
named_view a b =
    record { opening = true; quotas = Some (a, b); sent = (Some [], Some []); taken = Some [] }

-- There are no senders yet: the queue holds nothing, or the quotas alone.
pub data IsStarting (items : List Message) (views : List QueueView) : Type 0 where
  Empty : items ≡ [] → views ≡ first_view ∷ [] → IsStarting items views
  WithQuotas : (a b : ℕ) → items ≡ Quotas a b ∷ [] → views ≡ named_view a b ∷ []
      → IsStarting items views

-- the rule
abbrev pub IsInOrder : List Message → List QueueView → Type 0
IsInOrder items views = IsStarting items views ⊎ IsRunning items views

-- what a pass knows after it pushed a message
abbrev pub after_push : Message → QueueView → QueueView
after_push (Quotas a b) v = record v { quotas = Some (a, b) }
after_push (Refresh id r) v =
    record v { sent = place id (one_more (Refresh id r) (pick id v.sent)) v.sent }
after_push (End id) v = record v { sent = place id (one_more (End id) (pick id v.sent)) v.sent }

-- what a pass knows after it popped a message
abbrev pub after_pop : Message → QueueView → QueueView
after_pop m v = record v { taken = one_more m v.taken }

-- as many refreshes were taken as both quotas allow, or fewer
abbrev pub IsWithinQuotas : QueueView → Type 0
IsWithinQuotas v = (q : ℕ × ℕ) (ms : List Message) → v.quotas ≡ Some q → v.taken ≡ Some ms
    → length (refreshes_in ms) ≤ q.0 + q.1

-- what the first pass knows once the quotas are out of the queue
abbrev pub open_view : QueueView → QueueView
open_view v = record v { opening = false }

-- what a pass knows that was given up
abbrev pub spent_view : QueueView
spent_view = record { opening = false; quotas = None; sent = (None, None); taken = None }

-- what a pass knows once it gave one sender's part away
abbrev pub without_sender : SenderId → QueueView → QueueView
without_sender id v = record v { sent = place id None v.sent }

-- what the pass of one sender knows
abbrev pub sender_alone : SenderId → QueueView → QueueView
sender_alone id v = record {
  opening = false;
  quotas = v.quotas;
  sent = place id (pick id v.sent) (None, None);
  taken = None;
}

-- what a pass knows once it took in what another knows of one sender
abbrev pub with_sender : SenderId → QueueView → QueueView → QueueView
with_sender id v w = record v { sent = place id (pick id w.sent) v.sent }

-- What a pass learns of a moment: the queue held messages of the senders, each one's within its
-- quota and its end, and those of the pass's own sender were the last that it had sent.
pub record AtMoment (v : QueueView) (items : List Message) : Type 0 where
  pub of_senders : (q : ℕ × ℕ) → v.opening ≡ false → v.quotas ≡ Some q → All IsSent items
  pub few : (q : ℕ × ℕ) (id : SenderId) → v.opening ≡ false → v.quotas ≡ Some q
      → length (messages_of id items) ≤ pick id q + 1
  pub own : (id : SenderId) (ms : List Message) → v.opening ≡ false → pick id v.sent ≡ Some ms
      → (before : List Message) × (ms ≡ before ++ messages_of id items)

-- What a pass learns that knows both what a sender sent and what was taken: the latter, and then
-- what the queue holds, is of this sender what it sent.
abbrev pub IsAllSent : QueueView → List Message → Type 0
IsAllSent v items = (id : SenderId) (ms got : List Message) → v.opening ≡ false
    → pick id v.sent ≡ Some ms → v.taken ≡ Some got → messages_of id (got ++ items) ≡ ms
