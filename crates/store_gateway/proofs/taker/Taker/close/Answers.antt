use Rattle.std.proofs.Common.{◌≡◌, Bool, false, [], ◌∷◌, ◌++◌, Some, ap, sym, ◌∙◌, subst}
use Rattle.crossbeam_queue.specs.Passes.{view}
use Rattle.store_gateway.specs.declared.message.SenderId.{SenderId}
use Rattle.store_gateway.specs.declared.message.SenderId.TheVariants.{First, Second}
use Rattle.store_gateway.specs.declared.message.Message.TheVariants.{End}
use Rattle.store_gateway.specs.declared.queue.QueueView.{QueueView}
use Rattle.store_gateway.specs.declared.ended.Ended.TheInside.{Inside as EndedInside}
use Rattle.store_gateway.specs.Queue.{pick, refreshes_in, with_sender}
use Rattle.store_gateway.specs.Insides.{IsFinished, ended_sending, taken_in}
use Rattle.store_gateway.specs.Roles.{Sending, Taking, known_quotas, sent_messages, sent_by}
use Rattle.store_gateway.proofs.Steps.{merges}
use Rattle.store_gateway.proofs.Roles.{view-sent}
use Rattle.store_gateway.proofs.Ends.{all-sent}
use Rattle.store_gateway.proofs.taker.Taker.close.Goals as goal

-- what the pass of a sender that has ended knows
ended-has : (e : EndedInside) (id : SenderId) → IsFinished e → e.id ≡ id → pick id (view e.pass).sent ≡ Some (sent_messages id (ended_sending e).sent ++ End id ∷ [])
ended-has e id is same = subst (λ s. pick s (view e.pass).sent ≡ Some (sent_messages s (ended_sending e).sent ++ End s ∷ [])) same
    (ap (λ (v : QueueView). pick e.id v.sent) is.view_is ∙ view-sent e.id (known_quotas (view e.pass).quotas) (sent_messages e.id (ended_sending e).sent ++ End e.id ∷ []))

ended-off : (e : EndedInside) → IsFinished e → (view e.pass).opening ≡ false
ended-off e is = ap (λ (v : QueueView). v.opening) is.view_is

pub absorb-requires-clause-rule : goal.absorb-requires-clause-rule
absorb-requires-clause-rule c = merges _ First (view c.self.inside.pass) _ (view c.first.inside.pass) _ (ap (λ (v : QueueView). v.opening) c.self.invariant.view_is) (ended-off c.first.inside c.first.invariant)
    (ended-has c.first.inside First c.first.invariant (ap (λ (s : Sending). s.id) c.first.view_is ∙ c.requires.ids.0))

pub absorb-requires-2-clause-rule : goal.absorb-requires-2-clause-rule
absorb-requires-2-clause-rule c = merges _ Second (view c.absorb.new.pass) _ (view c.second.inside.pass) _ (ap (λ (v : QueueView). v.opening) c.absorb.ensures.rule ∙ ap (λ (v : QueueView). v.opening) c.self.invariant.view_is) (ended-off c.second.inside c.second.invariant)
    (ended-has c.second.inside Second c.second.invariant (ap (λ (s : Sending). s.id) c.second.view_is ∙ c.requires.ids.1))

pub returns-clause-first : goal.returns-clause-first
returns-clause-first c =
    let got = taken_in (view c.self.inside.pass) in
    let fact = c.learn_as.ensures.rule in
    let has = ended-has c.first.inside First c.first.invariant (ap (λ (s : Sending). s.id) c.first.view_is ∙ c.requires.ids.0) in
    let v : view c.absorb-2.new.pass ≡ with_sender Second (with_sender First (view c.self.inside.pass) (view c.first.inside.pass)) (view c.second.inside.pass) = c.absorb-2.ensures.rule ∙ ap (λ (w : QueueView). with_sender Second w (view c.second.inside.pass)) c.absorb.ensures.rule in
    let off = ap (λ (w : QueueView). w.opening) v ∙ ap (λ (w : QueueView). w.opening) c.self.invariant.view_is in
    let mine = ap (λ (w : QueueView). pick First w.sent) v ∙ has in
    let took = ap (λ (w : QueueView). w.taken) v ∙ ap (λ (w : QueueView). w.taken) c.self.invariant.view_is in
    let ended_too = sym c.self.invariant.first ∙ ap (λ (t : Taking). t.ended.0) c.self.view_is ∙ ap (λ (p : Bool × Bool). p.0) c.requires.ended in
    ap (λ (w : QueueView). sent_by First (refreshes_in (taken_in w))) (c.learn_as.ensures.queue.1 ∙ v) ∙ (all-sent First got fact.0 (ended_sending c.first.inside).sent ended_too (fact.1 First _ got off mine took) ∙ ap (λ (s : Sending). s.sent) c.first.view_is)

pub returns-clause-second : goal.returns-clause-second
returns-clause-second c =
    let got = taken_in (view c.self.inside.pass) in
    let fact = c.learn_as.ensures.rule in
    let has = ended-has c.second.inside Second c.second.invariant (ap (λ (s : Sending). s.id) c.second.view_is ∙ c.requires.ids.1) in
    let v : view c.absorb-2.new.pass ≡ with_sender Second (with_sender First (view c.self.inside.pass) (view c.first.inside.pass)) (view c.second.inside.pass) = c.absorb-2.ensures.rule ∙ ap (λ (w : QueueView). with_sender Second w (view c.second.inside.pass)) c.absorb.ensures.rule in
    let off = ap (λ (w : QueueView). w.opening) v ∙ ap (λ (w : QueueView). w.opening) c.self.invariant.view_is in
    let mine = ap (λ (w : QueueView). pick Second w.sent) v ∙ has in
    let took = ap (λ (w : QueueView). w.taken) v ∙ ap (λ (w : QueueView). w.taken) c.self.invariant.view_is in
    let ended_too = sym c.self.invariant.second ∙ ap (λ (t : Taking). t.ended.1) c.self.view_is ∙ ap (λ (p : Bool × Bool). p.1) c.requires.ended in
    ap (λ (w : QueueView). sent_by Second (refreshes_in (taken_in w))) (c.learn_as.ensures.queue.1 ∙ v) ∙ (all-sent Second got fact.0 (ended_sending c.second.inside).sent ended_too (fact.1 Second _ got off mine took) ∙ ap (λ (s : Sending). s.sent) c.second.view_is)
