use Rattle.std.proofs.Common.{◌≡◌, ◌<◌, ◌≤◌, ◌+◌, ◌∷◌, ◌++◌, [], length, ℕ, List, ap, sym, ◌∙◌, subst}
use Rattle.crossbeam_queue.specs.Passes.{view, ruled_capacity}
use Rattle.crossbeam_queue.specs.Fifo.{Held}
use Rattle.store_state.specs.Refresh.{Change}
use Rattle.store_gateway.specs.Queue.{pick, AtMoment}
use Rattle.store_gateway.specs.Roles.{Sending, WasFull, known_quotas, sent_more, sent_in}
use Rattle.store_gateway.specs.Answers.{SendsRefresh}
use Rattle.store_gateway.specs.Insides.{sending}
use Rattle.store_gateway.specs.declared.message.Message.TheVariants.{Refresh}
use Rattle.store_gateway.proofs.Steps.{learns}
use Rattle.store_gateway.proofs.Roles.{after-refresh, full, may-send, never-full, shape, still}
use Rattle.store_gateway.proofs.sender.Sender.send.Goals as goal
use Rattle.store_gateway.proofs.sender.Sender.send.Goals.{in-Ok, in-Err-Refresh}

pub push_as-requires-clause-rule : goal.push_as-requires-clause-rule
push_as-requires-clause-rule g c = (may-send _ _ c.self.inside.id c.args.refresh (view c.self.inside.pass) (sending c.self.inside).quotas (sending c.self.inside).sent c.self.invariant.view_is (subst (λ (s : Sending). length s.sent < pick s.id s.quotas) (sym c.self.view_is) c.requires.quota) c.requires.storable, learns _ _)

pub invariant_of-self : goal.invariant_of-self
invariant_of-self g c =
    let old = sending c.self.inside in
    let room : length old.sent < pick old.id old.quotas = subst (λ (s : Sending). length s.sent < pick s.id s.quotas) (sym c.self.view_is) c.requires.quota in
    let s = still old.id old.quotas old.sent c.args.refresh (view c.self.inside.pass) (view c.push_as.new.pass) (λ _. Held (ruled_capacity c.deref.result.now) (AtMoment (view c.self.inside.pass))) c.push_as.result c.self.invariant.view_is room c.push_as.ensures.rule in
    let k = shape old.id old.quotas s.0 (view c.push_as.new.pass) s.1 in
    record {
      pass = (c.push_as.ensures.queue.0 ∙ c.self.invariant.pass.0, c.push_as.ensures.queue.2 ∙ c.self.invariant.pass.1);
      view_is = k.2;
      few = subst (λ (y : List Change × (ℕ × ℕ)). length y.0 ≤ pick old.id y.1) (λ i. (sym k.0 i, sym k.1 i)) s.2;
    }

pub returns-clause-sends : goal.returns-clause-sends
returns-clause-sends g c =
    let old = sending c.self.inside in
    let new = sending (record { queue = c.self.inside.queue; pass = c.push_as.new.pass; id = c.self.inside.id }) in
    elim c.match-push_as.branch [
      | in-Ok w ↦
          let k = shape old.id old.quotas (old.sent ++ c.args.refresh ∷ []) (view c.push_as.new.pass) (after-refresh old.id old.quotas old.sent c.args.refresh (view c.self.inside.pass) (view c.push_as.new.pass) c.self.invariant.view_is w.in-Ok.ensures.rule) in
          let is : new ≡ sent_more c.args.refresh old = λ i. record { gateway = c.push_as.ensures.queue.0 i; id = old.id; sent = k.0 i; quotas = k.1 i; cap = old.cap } in
          subst (SendsRefresh c.args.self.now new c.args.refresh) (sym w.result-is) (is ∙ ap (sent_more c.args.refresh) c.self.view_is)
      | in-Err-Refresh w ↦
          let e = w.in-Err-Refresh.ensures.rule in
          let back : w.in-Err-Refresh.refresh ≡ c.args.refresh = let f : Refresh w.in-Err-Refresh.field-0-0 w.in-Err-Refresh.refresh ≡ Refresh c.self.inside.id c.args.refresh = sym w.in-Err-Refresh.field-0-is ∙ e.0 in cc in
          let is : new ≡ old = λ i. record { gateway = c.push_as.ensures.queue.0 i; id = old.id; sent = sent_in old.id (e.1 i); quotas = known_quotas (e.1 i).quotas; cap = old.cap } in
          let held : Held old.cap (AtMoment (view c.self.inside.pass)) = subst (λ n. Held n (AtMoment (view c.self.inside.pass))) (ap ruled_capacity c.deref.ensures) e.2 in
          subst (SendsRefresh c.args.self.now new c.args.refresh) (sym w.result-is) (back, is ∙ c.self.view_is, subst WasFull c.self.view_is (full old (view c.self.inside.pass) c.self.invariant.view_is held))
    ]

pub returns-clause-room : goal.returns-clause-room
returns-clause-room g c wide = let old = sending c.self.inside in elim c.match-push_as.branch [
  | in-Ok w ↦ w.result-is
  | in-Err-Refresh w ↦
      let held : Held old.cap (AtMoment (view c.self.inside.pass)) = subst (λ n. Held n (AtMoment (view c.self.inside.pass))) (ap ruled_capacity c.deref.ensures) w.in-Err-Refresh.ensures.rule.2 in
      absurd (never-full old (full old (view c.self.inside.pass) c.self.invariant.view_is held) c.self.invariant.few (subst (λ (s : Sending). s.quotas.0 + s.quotas.1 + 2 ≤ s.cap) (sym c.self.view_is) wide))
]
