-- What contracts see of a sender, of one that has ended, and of the taker.
use Rattle.std.specs.Prelude.{◌≡◌, ◌≤◌, ◌+◌, ◌||◌, ℕ, Bool, true, false, List, [], ◌∷◌, ◌++◌}
use Rattle.std.specs.Prelude.{length, map, if◌then◌else◌, Option, Some, None}
use Rattle.atomic_table.specs.Seated.{TableId}
use Rattle.store_state.specs.Refresh.{Change}
use Rattle.store_gateway.specs.declared.message.SenderId.{SenderId}
use Rattle.store_gateway.specs.declared.message.Message.{Message}
use Rattle.store_gateway.specs.declared.message.Message.TheVariants.{Quotas, Refresh, End}
use Rattle.store_gateway.specs.declared.queue.QueueView.{QueueView}
use Rattle.store_gateway.specs.Queue.{is_same_sender, pick, place, refreshes_in}

-- the refreshes of one sender, in order
abbrev pub sent_by : SenderId → List (SenderId × Change) → List Change
sent_by id [] = []
sent_by id (e ∷ es) = if is_same_sender id e.0 then e.1 ∷ sent_by id es else sent_by id es

-- the messages of a sender that sent these refreshes
abbrev pub sent_messages : SenderId → List Change → List Message
sent_messages id rs = map (Refresh id) rs

-- whether a message is the end of this sender
abbrev pub is_end : SenderId → Message → Bool
is_end id (Quotas a b) = false
is_end id (Refresh other r) = false
is_end id (End other) = is_same_sender id other

-- whether the end of this sender is among messages
abbrev pub has_end : SenderId → List Message → Bool
has_end id [] = false
has_end id (m ∷ ms) = is_end id m || has_end id ms

-- the messages that are known; none where nothing is
abbrev pub known_messages : Option (List Message) → List Message
known_messages None = []
known_messages (Some ms) = ms

-- the quotas that are known; 0 where nothing is
abbrev pub known_quotas : Option (ℕ × ℕ) → ℕ × ℕ
known_quotas None = (0, 0)
known_quotas (Some q) = q

-- what a sender sent, by what its pass knows
abbrev pub sent_in : SenderId → QueueView → List Change
sent_in id v = sent_by id (refreshes_in (known_messages (pick id v.sent)))

-- what the pass of a sender knows that sent these messages
abbrev pub sender_view : SenderId → ℕ × ℕ → List Message → QueueView
sender_view id quotas ms = record {
  opening = false;
  quotas = Some quotas;
  sent = place id (Some ms) (None, None);
  taken = None;
}

-- what the pass of the taker knows that took these messages
abbrev pub taker_view : ℕ × ℕ → List Message → QueueView
taker_view quotas ms =
    record { opening = false; quotas = Some quotas; sent = (None, None); taken = Some ms }

-- A sender: the gateway that it is of, which of the two it is, what it sent, how many refreshes
-- each sender may send, and how many messages the queue holds at most.
pub record Sending : Type 0 where
  pub gateway : TableId
  pub id : SenderId
  pub sent : List Change
  pub quotas : ℕ × ℕ
  pub cap : ℕ

-- The taker: the gateway that it is of, what it took in this order, whose ends it took, how many
-- refreshes each sender may send, and how many messages the queue holds at most.
pub record Taking : Type 0 where
  pub gateway : TableId
  pub taken : List (SenderId × Change)
  pub ended : Bool × Bool
  pub quotas : ℕ × ℕ
  pub cap : ℕ

-- the first and the second sender of the taker's gateway before they sent anything
abbrev pub new_sender : SenderId → Taking → Sending
new_sender id t =
    record { gateway = t.gateway; id = id; sent = []; quotas = t.quotas; cap = t.cap }

-- a sender that sent one refresh more
abbrev pub sent_more : Change → Sending → Sending
sent_more r s = record s { sent = s.sent ++ r ∷ [] }

-- a taker that took one refresh more
abbrev pub taken_more : SenderId → Change → Taking → Taking
taken_more id r t = record t { taken = t.taken ++ (id, r) ∷ [] }

-- a taker that took the end of a sender
abbrev pub ended_too : SenderId → Taking → Taking
ended_too id t = record t { ended = place id true t.ended }

-- The queue was full at a moment of the call: it held as many messages as it may. Those of this
-- sender were among what it had sent, those of the other one within its quota and its end.
pub record WasFull (s : Sending) : Type 0 where
  pub mine : ℕ
  pub theirs : ℕ
  pub full : mine + theirs ≡ s.cap
  pub own : mine ≤ length s.sent
  pub quota : (other : SenderId) → is_same_sender other s.id ≡ false
      → theirs ≤ pick other s.quotas + 1
