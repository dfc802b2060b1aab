-- What contracts see of the roles' fields, and what their passes know.
use Rattle.std.specs.Prelude.{◌≡◌, ◌≤◌, ◌+◌, List, [], ◌∷◌, ◌++◌, length, map}
use Rattle.std.specs.Arc.{arc_value}
use Rattle.crossbeam_queue.specs.Passes.{view, IsPassOf, ruled_capacity}
use Rattle.store_state.specs.Refresh.{Change}
use Rattle.store_gateway.specs.declared.message.SenderId.{SenderId}
use Rattle.store_gateway.specs.declared.message.SenderId.TheVariants.{First, Second}
use Rattle.store_gateway.specs.declared.message.Message.{Message}
use Rattle.store_gateway.specs.declared.message.Message.TheVariants.{End}
use Rattle.store_gateway.specs.declared.queue.QueueView.{QueueView}
use Rattle.store_gateway.specs.declared.sender.Sender.TheInside.{Inside as SenderInside}
use Rattle.store_gateway.specs.declared.ended.Ended.TheInside.{Inside as EndedInside}
use Rattle.store_gateway.specs.declared.taker.Taker.TheInside.{Inside as TakerInside}
use Rattle.store_gateway.specs.declared.order.Order.TheInside.{Inside as OrderInside}
use Rattle.store_gateway.specs.Queue.{pick, refreshes_in}
use Rattle.store_gateway.specs.Roles.{Sending, Taking, has_end, known_messages, known_quotas}
use Rattle.store_gateway.specs.Roles.{sender_view, sent_in, sent_messages, taker_view}

-- a sender by what its pass knows
abbrev pub sending : SenderInside → Sending
sending s = record {
  gateway = s.pass.table_id;
  id = s.id;
  sent = sent_in s.id (view s.pass);
  quotas = known_quotas (view s.pass).quotas;
  cap = ruled_capacity (arc_value s.queue);
}

-- A sender's pass is of its queue and knows what the sender sent, which is within its quota.
pub record IsSender (s : SenderInside) : Type 0 where
  pub pass : IsPassOf (arc_value s.queue) s.pass
  pub view_is : view s.pass ≡ sender_view s.id (known_quotas (view s.pass).quotas)
      (sent_messages s.id (sent_in s.id (view s.pass)))
  pub few : length (sent_in s.id (view s.pass)) ≤ pick s.id (known_quotas (view s.pass).quotas)

-- a sender that has ended, by what its pass knows
abbrev pub ended_sending : EndedInside → Sending
ended_sending s = record {
  gateway = s.pass.table_id;
  id = s.id;
  sent = sent_in s.id (view s.pass);
  quotas = known_quotas (view s.pass).quotas;
  cap = ruled_capacity (arc_value s.queue);
}

-- The pass of a sender that has ended is of its queue and knows what it sent, and then its end.
pub record IsFinished (s : EndedInside) : Type 0 where
  pub pass : IsPassOf (arc_value s.queue) s.pass
  pub view_is : view s.pass ≡ sender_view s.id (known_quotas (view s.pass).quotas)
      (sent_messages s.id (sent_in s.id (view s.pass)) ++ End s.id ∷ [])

-- the messages that were taken, by what a pass knows
abbrev pub taken_in : QueueView → List Message
taken_in v = known_messages v.taken

-- the taker by what its pass knows
abbrev pub taking : TakerInside → Taking
taking t = record {
  gateway = t.pass.table_id;
  taken = refreshes_in (taken_in (view t.pass));
  ended = (t.first_ended, t.second_ended);
  quotas = known_quotas (view t.pass).quotas;
  cap = ruled_capacity (arc_value t.queue);
}

-- The taker's pass is of its queue and knows what was taken: whose ends, and whose refreshes in
-- which order, and that these are within the quotas.
pub record IsTaker (t : TakerInside) : Type 0 where
  pub pass : IsPassOf (arc_value t.queue) t.pass
  pub view_is : view t.pass
      ≡ taker_view (known_quotas (view t.pass).quotas) (taken_in (view t.pass))
  pub first : t.first_ended ≡ has_end First (taken_in (view t.pass))
  pub second : t.second_ended ≡ has_end Second (taken_in (view t.pass))
  pub few : length (refreshes_in (taken_in (view t.pass)))
      ≤ (known_quotas (view t.pass).quotas).0 + (known_quotas (view t.pass).quotas).1
  pub senders : t.senders.items ≡ map (λ e. e.0) (refreshes_in (taken_in (view t.pass)))

-- the refreshes in the order in which they were taken, each with its sender
abbrev pub ordered : OrderInside → List (SenderId × Change)
ordered o = refreshes_in (taken_in (view o.pass))

-- An order's senders are those of the refreshes that its pass knows.
abbrev pub IsOrder : OrderInside → Type 0
IsOrder o = o.senders.items ≡ map (λ e. e.0) (refreshes_in (taken_in (view o.pass)))
