use Rattle.std.proofs.Common.{◌≡◌, ◌≤◌, ◌+◌, ap, sym, ◌∙◌, subst}
use Rattle.crossbeam_queue.specs.Passes.{view, ruled_capacity}
use Rattle.crossbeam_queue.specs.Fifo.{Held}
use Rattle.store_gateway.specs.Queue.{AtMoment}
use Rattle.store_gateway.specs.Roles.{Sending, WasFull, known_quotas, sent_in}
use Rattle.store_gateway.specs.Insides.{ended_sending, sending}
use Rattle.store_gateway.proofs.Steps.{learns}
use Rattle.store_gateway.proofs.Roles.{after-end, full, may-end, never-full, shape-ended}
use Rattle.store_gateway.specs.Answers.{HasEnded, SendsEnd}
use Rattle.store_gateway.proofs.sender.Sender.end.Goals as goal
use Rattle.store_gateway.proofs.sender.Sender.end.Goals.{in-Ok, in-Err}

pub push_as-requires-clause-rule : goal.push_as-requires-clause-rule
push_as-requires-clause-rule g c = (may-end _ _ c.self.inside.id (view c.self.inside.pass) (sending c.self.inside).quotas (sending c.self.inside).sent c.self.invariant.view_is c.self.invariant.few, learns _ _)

pub invariant_of-result : goal.invariant_of-result
invariant_of-result g c =
    let old = sending c.self.inside in
    let k = shape-ended old.id old.quotas old.sent (view c.push_as.new.pass) (after-end old.id old.quotas old.sent (view c.self.inside.pass) (view c.push_as.new.pass) c.self.invariant.view_is c.in-Ok.ensures.rule) in
    record {
      pass = (c.push_as.ensures.queue.0 ∙ c.self.invariant.pass.0, c.push_as.ensures.queue.2 ∙ c.self.invariant.pass.1);
      view_is = k.2;
    }

pub returns-clause-ends : goal.returns-clause-ends
returns-clause-ends g c =
    let old = sending c.self.inside in
    elim c.match-push_as.branch [
      | in-Ok w ↦
          let k = shape-ended old.id old.quotas old.sent (view c.push_as.new.pass) (after-end old.id old.quotas old.sent (view c.self.inside.pass) (view c.push_as.new.pass) c.self.invariant.view_is w.in-Ok.ensures.rule) in
          let is : ended_sending (record { queue = c.self.inside.queue; pass = c.push_as.new.pass; id = c.self.inside.id }) ≡ old = λ i. record { gateway = c.push_as.ensures.queue.0 i; id = old.id; sent = k.0 i; quotas = k.1 i; cap = old.cap } in
          subst (SendsEnd c.args.self) (sym w.result-is) (is ∙ c.self.view_is)
      | in-Err w ↦
          let e = w.in-Err.ensures.rule in
          let is : sending (record { queue = c.self.inside.queue; pass = c.push_as.new.pass; id = c.self.inside.id }) ≡ old = λ i. record { gateway = c.push_as.ensures.queue.0 i; id = old.id; sent = sent_in old.id (e.1 i); quotas = known_quotas (e.1 i).quotas; cap = old.cap } in
          let held : Held old.cap (AtMoment (view c.self.inside.pass)) = subst (λ n. Held n (AtMoment (view c.self.inside.pass))) (ap ruled_capacity c.deref.ensures) e.2 in
          subst (SendsEnd c.args.self) (sym w.result-is) (is ∙ c.self.view_is, subst WasFull c.self.view_is (full old (view c.self.inside.pass) c.self.invariant.view_is held))
    ]

pub returns-clause-room : goal.returns-clause-room
returns-clause-room g c wide = let old = sending c.self.inside in elim c.match-push_as.branch [
  | in-Ok w ↦ subst HasEnded (sym w.result-is) tt
  | in-Err w ↦
      let held : Held old.cap (AtMoment (view c.self.inside.pass)) = subst (λ n. Held n (AtMoment (view c.self.inside.pass))) (ap ruled_capacity c.deref.ensures) w.in-Err.ensures.rule.2 in
      absurd (never-full old (full old (view c.self.inside.pass) c.self.invariant.view_is held) c.self.invariant.few (subst (λ (s : Sending). s.quotas.0 + s.quotas.1 + 2 ≤ s.cap) (sym c.self.view_is) wide))
]
