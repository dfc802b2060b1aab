use Rattle.std.proofs.Common.{◌≡◌, ◌<◌, ℕ, List, [], ◌∷◌, ◌++◌, sym, ap, subst, ◌∙◌, append_assoc, append-nil, length-append, arith, length}
use Rattle.std.specs.List.{AllByRecursion}
use Rattle.std.specs.Vec.Iter.{into_iter_items}
use Rattle.store_refresh_entries.specs.Change.{MayBeStored}
use Rattle.store_state.specs.Refresh.{Change}
use Rattle.std.proofs.lemmas.List.{nil_from_length}
use Rattle.store_gateway.specs.declared.message.SenderId.{SenderId}
use Rattle.store_gateway.specs.Queue.{pick}
use Rattle.store_gateway.specs.Roles.{Sending}
use Rattle.store_gateway.proofs.sending.send_all.Goals as goal

all-middle : (P : Change → Type 0) (before : List Change) (x : Change) (behind : List Change) → AllByRecursion P (before ++ x ∷ behind) → P x
all-middle P [] x behind all = all.0
all-middle P (y ∷ before) x behind all = all-middle P before x behind all.1

pub send_one-requires-clause-quota : goal.send_one-requires-clause-quota
send_one-requires-clause-quota g c =
    let at = c.loop-refresh in
    let x = c.in-Some.refresh in
    let steps : into_iter_items at.refresh-iterator ≡ x ∷ into_iter_items c.next.new.self = c.in-Some.ensures.steps.0 in
    let whole : at.yielded ++ x ∷ into_iter_items c.next.new.self ≡ c.args.refreshes.items =
    ap (λ l. at.yielded ++ l) (sym steps) ∙ at.invariant.whole ∙ c.into_iter-refresh-iterator.ensures.into_iter_gives.0 in
    let all = ap length whole in
    let parts = length-append at.yielded (x ∷ into_iter_items c.next.new.self) in
    let now = ap length at.invariant.sent in
    let both = length-append c.args.sender.sent at.yielded in
    let room = c.requires.quota in
    let few : length at.sender.sent < pick c.args.sender.id c.args.sender.quotas = omega (arith, all, parts, now, both, room) in
    subst (λ (y : SenderId × (ℕ × ℕ)). length at.sender.sent < pick y.0 y.1) (λ i. (sym at.invariant.id i, sym at.invariant.quotas i)) few

pub loop-refresh-preserved : goal.loop-refresh-preserved
loop-refresh-preserved g c =
    let at = c.loop-refresh in
    let x = c.in-Some.refresh in
    let steps : into_iter_items at.refresh-iterator ≡ x ∷ into_iter_items c.next.new.self = c.in-Some.ensures.steps.0 in
    record {
      whole = append_assoc at.yielded (x ∷ []) _ ∙ rw (← steps) at.invariant.whole;
      left = let was = at.invariant.left in let gone = c.in-Some.ensures.steps.1 in let short = ap length steps in omega arith;
      gateway = ap (λ (s : Sending). s.gateway) c.send_one.ensures ∙ at.invariant.gateway;
      id = ap (λ (s : Sending). s.id) c.send_one.ensures ∙ at.invariant.id;
      quotas = ap (λ (s : Sending). s.quotas) c.send_one.ensures ∙ at.invariant.quotas;
      sent = ap (λ (s : Sending). s.sent) c.send_one.ensures ∙ (ap (λ l. l ++ x ∷ []) at.invariant.sent ∙ append_assoc c.args.sender.sent at.yielded (x ∷ []));
    }

pub returns-clause-sent : goal.returns-clause-sent
returns-clause-sent g c =
    let at = c.loop-refresh in
    let none = c.in-None.ensures.steps in
    let empty : into_iter_items at.refresh-iterator ≡ [] = nil_from_length _ (sym at.invariant.left ∙ none.0) in
    let all : at.yielded ≡ c.args.refreshes.items = sym (append-nil at.yielded) ∙ rw empty at at.invariant.whole ∙ c.into_iter-refresh-iterator.ensures.into_iter_gives.0 in
    ap (λ (s : Sending). s.sent) c.send_end.ensures ∙ (at.invariant.sent ∙ ap (λ l. c.args.sender.sent ++ l) all)

pub send_one-requires-clause-storable : goal.send_one-requires-clause-storable
send_one-requires-clause-storable g c =
    let at = c.loop-refresh in
    let x = c.in-Some.refresh in
    let steps : into_iter_items at.refresh-iterator ≡ x ∷ into_iter_items c.next.new.self = c.in-Some.ensures.steps.0 in
    let whole : at.yielded ++ x ∷ into_iter_items c.next.new.self ≡ c.args.refreshes.items =
    ap (λ l. at.yielded ++ l) (sym steps) ∙ at.invariant.whole ∙ c.into_iter-refresh-iterator.ensures.into_iter_gives.0 in
    all-middle MayBeStored at.yielded x (into_iter_items c.next.new.self) (subst (AllByRecursion MayBeStored) (sym whole) c.requires.storable)
