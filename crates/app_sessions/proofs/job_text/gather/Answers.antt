use Rattle.std.proofs.Common.{rules, ◌≡◌, ℕ, ◌+◌, ◌<◌, ◌≤◌, length, slice_index_or, take, subst, sym, ap, ◌∙◌, arith}
use Rattle.std.proofs.Math.Seq.{take-length}
use Rattle.app_sessions.specs.Gathered.{IsSessionsText}
use Rattle.app_sessions.specs.Workers.{IsNumberOver, next_place, place_of, sessions_of}
use Rattle.app_sessions.specs.declared.session.Session.{Session}
use Rattle.app_sessions.proofs.JobDeals.{place-few, place-more}
use Rattle.app_sessions.proofs.JobTexts.{gathered_more}
use Rattle.app_sessions.proofs.job_text.gather.Goals as goal

pub gathering-preserved : goal.gathering-preserved
gathering-preserved g c =
    let i = c.gathering.invariant in
    let ws = c.args.workers.now in
    let k = c.gathering.k in
    let n : ℕ = length c.args.workers.now in
    let e : c.place_after.result ≡ place_of n (k + 1) = c.place_after.ensures ∙ (ap (λ t. next_place n (t, c.gathering.round)) i.turn ∙ (ap (λ r. next_place n ((place_of n k).0, r)) i.round ∙ sym (place-more n k))) in
    let few : c.place_after.result.1 ≤ c.gathering.round + 1 = subst (λ (q : ℕ × ℕ). q.1 ≤ c.gathering.round + 1) (sym c.place_after.ensures) (place-few n (c.gathering.turn, c.gathering.round)) in
    let less : k < c.args.count = search rules in
    let number : c.saturating_add.result ≡ k + 1 = search rules in
    let session : Session = c.index.result.now in
    let is : session ≡ slice_index_or (sessions_of (slice_index_or ws (place_of n k).0 c.index-workers-turn.result)) (place_of n k).1 session =
    c.index.ensures ∙ (ap (λ w. slice_index_or (sessions_of w) c.gathering.round session) c.index-workers-turn.is
    ∙ (ap (λ t. slice_index_or (sessions_of (slice_index_or ws t c.index-workers-turn.result)) c.gathering.round session) i.turn
    ∙ ap (λ r. slice_index_or (sessions_of (slice_index_or ws (place_of n k).0 c.index-workers-turn.result)) r session) i.round)) in
    record {
      turn = ap (λ q. q.0) e;
      round = ap (λ q. q.1) e;
      few = omega (arith, few, i.few);
      gathered = λ o low high all len each.
          let over : IsNumberOver o low high all k session = subst (IsNumberOver o low high all k) (sym is) ((each k less).session c.index-workers-turn.result session) in
          gathered_more o low high all k c.saturating_add.result c.gathering.text c.put.new.self session (subst (λ m. k < m) (sym len) less) number over
          c.in_ok-put.ensures.text c.in_ok-put.ensures.versions c.in_ok-put.ensures.clean (i.gathered o low high all len each);
    }

pub returns : goal.returns
returns g c = λ o low high all len each.
    let i = c.gathering.invariant in
    let done : take c.gathering.k all ≡ all = (let e : c.gathering.k ≡ length all = search rules in ap (λ m. take m all) e ∙ take-length all) in
    subst (λ ss. IsSessionsText o low high ss c.gathering.text) done (i.gathered o low high all len each)
