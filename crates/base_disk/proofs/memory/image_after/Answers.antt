use Rattle.std.proofs.Common.{◌≡◌, ℕ, ◌+◌, suc, take, sym, ◌∙◌, ap, subst, arith}
use Rattle.base_disk.specs.Memory.{State, TornBy, done, state_now}
use Rattle.base_disk.proofs.Moves.{next_state}
use Rattle.base_disk.proofs.memory.image_after.Goals as goal

pub loop-call-preserved : goal.loop-call-preserved
loop-call-preserved c =
    let i = c.loop-call.call-index in
    let first = c.args.first.now in
    let up : suc i ≡ i + 1 = omega arith in
    let state : state_now first (take (i + 1) c.args.calls.now) ≡ done (state_now first (take i c.args.calls.now)) c.call-item.result = ap (λ (k : ℕ). state_now first (take k c.args.calls.now)) (sym up) ∙ next_state first c.args.calls.now i c.call-item.result c.loop-call-test.true c.call-item.is in
    let one = c.in_ok-redo.ensures c.if-not-branch.false (state_now first (take i c.args.calls.now)) c.loop-call.invariant.now c.loop-call.invariant.torn in
    record {
      now = one.0 ∙ ap (λ (s : State). s.bytes) (sym state);
      torn = subst (λ (s : State). TornBy s.writes s.firm c.redo.new.torn.items) (sym state) one.1;
    }
