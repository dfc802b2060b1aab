use Rattle.std.proofs.Common.{rules, ◌≡◌, ◌+◌, ◌<◌, List, [], ◌∷◌, ◌++◌, drop, length, slice_index_or, slice_set, subst, sym, ap, ◌∙◌, arith, add-one}
use Rattle.std.specs.List.{remove}
use Rattle.std.proofs.Math.ListN.{length-set}
use Rattle.std.proofs.Math.Seq.{drop-cons}
use Rattle.std.proofs.lemmas.List.{get_or-drop, get_or-map, get_or_default}
use Rattle.app_sessions.specs.Asked.{IsUnasked, job_session, job_sessions}
use Rattle.app_sessions.specs.Workers.{IsNumber, next_place, no_session, place_of, sessions_of}
use Rattle.app_sessions.specs.declared.session.Session.{Session}
use Rattle.app_sessions.proofs.JobDeals.{assigned-more, place-more}
use Rattle.app_sessions.proofs.workers.assign_sessions.Goals as goal

pub assigning-preserved : goal.assigning-preserved
assigning-preserved g c =
    let i = c.assigning.invariant in
    let ws = c.assigning.workers in
    let k = c.assigning._k in
    let t = c.assigning.turn in
    let ss = c.args.sessions.items in
    let s = c.remove-session.result in
    let x = c.push_session.new.worker in
    let less : k < length ss = search rules in
    let is : s ≡ slice_index_or ss k s = c.remove-session.ensures.value ∙ (ap (λ l. slice_index_or l 0 s) i.rest ∙ (get_or-drop k ss 0 s ∙ ap (λ n. slice_index_or ss n s) (let e : k + 0 ≡ k = omega arith in e))) in
    let none : IsUnasked s = subst IsUnasked (sym is) (c.requires.unasked k s less) in
    let number : IsNumber (job_sessions ss) k s = ap job_session is ∙ sym (get_or-map job_session ss k s no_session less) in
    let e = c.in_ok-push_session.ensures in
    let at = get_or_default ws t c.index-workers-turn.result x i.within in
    let n : length (slice_set ws t x) ≡ length c.args.workers.now = length-set ws t x ∙ i.assigned.len in
    let d = assigned-more ss c.args.workers.now ws k t x s i.assigned i.filled i.turn i.within
    (e.sessions ∙ ap (λ y. sessions_of y ++ s ∷ []) at) (e.reader ∙ ap (λ y. y.reader) at) (e.going ∙ ap (λ y. y.is_lost) at) none number in
    record {
      rest = c.remove-session.ensures.items ∙ (ap (λ (l : List Session). remove l 0) (i.rest ∙ drop-cons ss k s less) ∙ ap (λ n. drop n ss) (sym (add-one k)));
      turn = c.next_turn-turn.ensures.next (place_of (length c.args.workers.now) k).1
          ∙ (ap (λ m. (next_place m (t, (place_of (length c.args.workers.now) k).1)).0) n
          ∙ (ap (λ j. (next_place (length c.args.workers.now) (j, (place_of (length c.args.workers.now) k).1)).0) i.turn ∙ ap (λ q. q.0) (sym (place-more (length c.args.workers.now) k))));
      within = c.next_turn-turn.ensures.within;
      filled = d.1;
      assigned = d.0;
    }

pub push_session-requires : goal.push_session-requires
push_session-requires g c =
    let i = c.assigning.invariant in
    let k = c.assigning._k in
    let ss = c.args.sessions.items in
    let s = c.remove-session.result in
    let less : k < length ss = search rules in
    let is : s ≡ slice_index_or ss k s = c.remove-session.ensures.value ∙ (ap (λ l. slice_index_or l 0 s) i.rest ∙ (get_or-drop k ss 0 s ∙ ap (λ n. slice_index_or ss n s) (let e : k + 0 ≡ k = omega arith in e))) in
    subst IsUnasked (sym is) (c.requires.unasked k s less)
