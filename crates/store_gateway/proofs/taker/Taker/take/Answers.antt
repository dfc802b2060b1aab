use Rattle.std.proofs.Common.{◌≡◌, ◌≤◌, ◌+◌, ◌||◌, ℕ, length, List, [], ◌∷◌, ◌++◌, map, ap, ◌∙◌, sym, subst}
use Rattle.std.proofs.lemmas.List.{map-append}
use Rattle.crossbeam_queue.specs.Passes.{view}
use Rattle.store_gateway.specs.declared.message.SenderId.TheVariants.{First, Second}
use Rattle.store_gateway.specs.declared.message.Message.{Message}
use Rattle.store_gateway.specs.declared.message.Message.TheVariants.{Refresh, End}
use Rattle.store_gateway.specs.Queue.{after_pop, is_same_sender, refreshes_in}
use Rattle.store_gateway.specs.Insides.{taken_in, taking}
use Rattle.store_gateway.specs.Roles.{has_end, known_quotas, ended_too, taken_more}
use Rattle.store_gateway.proofs.Steps.{learns, pops}
use Rattle.store_gateway.proofs.Roles.{view-after-pop, has_end-more, has_end-same, placed-ends, refreshes-end, refreshes-refresh, taker-shape, within-taken}
use Rattle.store_gateway.proofs.taker.Taker.take.Goals as goal

pub pop_as-requires-clause-rule : goal.pop_as-requires-clause-rule
pop_as-requires-clause-rule g c =
    let is = c.self.invariant.view_is in
    (pops _ (view c.self.inside.pass) (taken_in (view c.self.inside.pass)) (ap (λ v. v.opening) is) (ap (λ v. v.taken) is), learns _ _)

pub invariant_of-self-in-Some-Refresh : goal.invariant_of-self-in-Some-Refresh
invariant_of-self-in-Some-Refresh g c =
    let v = view c.self.inside.pass in
    let old = taken_in v in
    let id = c.in-Some-Refresh.id in
    let r = c.in-Some-Refresh.refresh in
    let rule = c.in-Some-Refresh.ensures.rule in
    let k = taker-shape (known_quotas v.quotas) (old ++ Refresh id r ∷ []) (view c.pop_as.new.pass)
    (view-after-pop (known_quotas v.quotas) old (Refresh id r) v (view c.pop_as.new.pass) c.self.invariant.view_is (rule.1 ∙ ap (λ x. after_pop x v) c.in-Some-Refresh.field-0-is)) in
    record {
      pass = (c.pop_as.ensures.queue.0 ∙ c.self.invariant.pass.0, c.pop_as.ensures.queue.2 ∙ c.self.invariant.pass.1);
      view_is = k.2;
      first = c.self.invariant.first ∙ (sym (has_end-same First old id r) ∙ ap (has_end First) (sym k.0));
      second = c.self.invariant.second ∙ (sym (has_end-same Second old id r) ∙ ap (has_end Second) (sym k.0));
      few = subst (λ (y : List Message × (ℕ × ℕ)). length (refreshes_in y.0) ≤ y.1.0 + y.1.1) (λ i. (sym k.0 i, sym k.1 i)) (within-taken (known_quotas v.quotas) (old ++ Refresh id r ∷ []) (view c.pop_as.new.pass) (view-after-pop (known_quotas v.quotas) old (Refresh id r) v (view c.pop_as.new.pass) c.self.invariant.view_is (rule.1 ∙ ap (λ x. after_pop x v) c.in-Some-Refresh.field-0-is)) rule.2);
      senders = c.replace_last.ensures c.self.inside.senders.items First c.in_ok-push.ensures.items
          ∙ (ap (λ l. l ++ id ∷ []) c.self.invariant.senders ∙ (sym (map-append (λ e. e.0) (refreshes_in old) ((id, r) ∷ [])) ∙ ap (map (λ e. e.0)) (sym (refreshes-refresh old id r) ∙ ap refreshes_in (sym k.0))));
    }

pub invariant_of-self-in-Some-End : goal.invariant_of-self-in-Some-End
invariant_of-self-in-Some-End g c =
    let v = view c.self.inside.pass in
    let old = taken_in v in
    let id = c.in-Some-End.id in
    let rule = c.in-Some-End.ensures.rule in
    let k = taker-shape (known_quotas v.quotas) (old ++ End id ∷ []) (view c.pop_as.new.pass)
    (view-after-pop (known_quotas v.quotas) old (End id) v (view c.pop_as.new.pass) c.self.invariant.view_is (rule.1 ∙ ap (λ x. after_pop x v) c.in-Some-End.field-0-is)) in
    record {
      pass = (c.pop_as.ensures.queue.0 ∙ c.self.invariant.pass.0, c.pop_as.ensures.queue.2 ∙ c.self.invariant.pass.1);
      view_is = k.2;
      first = c.has_ended-self-inside.ensures ∙ (ap (λ b. b || is_same_sender First id) c.self.invariant.first ∙ (sym (has_end-more First old (End id)) ∙ ap (has_end First) (sym k.0)));
      second = c.has_ended-self-inside-in-Some-End.ensures ∙ (ap (λ b. b || is_same_sender Second id) c.self.invariant.second ∙ (sym (has_end-more Second old (End id)) ∙ ap (has_end Second) (sym k.0)));
      few = subst (λ (y : List Message × (ℕ × ℕ)). length (refreshes_in y.0) ≤ y.1.0 + y.1.1) (λ i. (sym k.0 i, sym k.1 i)) (within-taken (known_quotas v.quotas) (old ++ End id ∷ []) (view c.pop_as.new.pass) (view-after-pop (known_quotas v.quotas) old (End id) v (view c.pop_as.new.pass) c.self.invariant.view_is (rule.1 ∙ ap (λ x. after_pop x v) c.in-Some-End.field-0-is)) rule.2);
      senders = c.drop_last.ensures c.self.inside.senders.items First c.in_ok-push.ensures.items
          ∙ (c.self.invariant.senders ∙ ap (map (λ e. e.0)) (sym (refreshes-end old id) ∙ ap refreshes_in (sym k.0)));
    }

pub returns-in-Some-Refresh-clause-ok : goal.returns-in-Some-Refresh-clause-ok
returns-in-Some-Refresh-clause-ok g c =
    let v = view c.self.inside.pass in
    let old = taken_in v in
    let id = c.in-Some-Refresh.id in
    let r = c.in-Some-Refresh.refresh in
    let rule = c.in-Some-Refresh.ensures.rule in
    let k = taker-shape (known_quotas v.quotas) (old ++ Refresh id r ∷ []) (view c.pop_as.new.pass)
    (view-after-pop (known_quotas v.quotas) old (Refresh id r) v (view c.pop_as.new.pass) c.self.invariant.view_is (rule.1 ∙ ap (λ x. after_pop x v) c.in-Some-Refresh.field-0-is)) in
    let was = taking c.self.inside in
    let more = ap refreshes_in k.0 ∙ refreshes-refresh old id r in
    let is : taking (record { queue = c.self.inside.queue; pass = c.pop_as.new.pass; senders = c.replace_last.new.senders; first_ended = c.self.inside.first_ended; second_ended = c.self.inside.second_ended }) ≡ taken_more id r was =
    λ i. record { gateway = c.pop_as.ensures.queue.0 i; taken = more i; ended = was.ended; quotas = k.1 i; cap = was.cap } in
    is ∙ ap (taken_more id r) c.self.view_is

pub returns-in-Some-End-clause-ok : goal.returns-in-Some-End-clause-ok
returns-in-Some-End-clause-ok g c =
    let v = view c.self.inside.pass in
    let old = taken_in v in
    let id = c.in-Some-End.id in
    let rule = c.in-Some-End.ensures.rule in
    let k = taker-shape (known_quotas v.quotas) (old ++ End id ∷ []) (view c.pop_as.new.pass)
    (view-after-pop (known_quotas v.quotas) old (End id) v (view c.pop_as.new.pass) c.self.invariant.view_is (rule.1 ∙ ap (λ x. after_pop x v) c.in-Some-End.field-0-is)) in
    let was = taking c.self.inside in
    let more = ap refreshes_in k.0 ∙ refreshes-end old id in
    let now = placed-ends id was.ended c.has_ended-self-inside.result c.has_ended-self-inside-in-Some-End.result c.has_ended-self-inside.ensures c.has_ended-self-inside-in-Some-End.ensures in
    let is : taking (record { queue = c.self.inside.queue; pass = c.pop_as.new.pass; senders = c.drop_last.new.senders; first_ended = c.has_ended-self-inside.result; second_ended = c.has_ended-self-inside-in-Some-End.result }) ≡ ended_too id was =
    λ i. record { gateway = c.pop_as.ensures.queue.0 i; taken = more i; ended = now i; quotas = k.1 i; cap = was.cap } in
    is ∙ ap (ended_too id) c.self.view_is
