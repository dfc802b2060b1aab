use Rattle.std.proofs.Common.{◌≡◌, ◌<◌, List, ℕ, length, arith, subst, sym}
use Rattle.store_state.proofs.LeftRows.{AreLeftUntil, left_begin, left_end, left_next}
use Rattle.store_state.proofs.part.left_places.Goals as goal

pub loop-i-init : goal.loop-i-init
loop-i-init c =
    subst (λ (places : List ℕ). AreLeftUntil c.args.deleted.now c.args.segment.now 0 places) (sym c.in_ok-places.ensures.items)
    (left_begin c.args.deleted.now c.args.segment.now)

pub loop-i-preserved : goal.loop-i-preserved
loop-i-preserved c =
    let less : c.loop-i.i < length c.args.segment.now = omega arith in
    left_next c.args.deleted.now c.args.segment.now c.loop-i.i c.loop-i.places.items c.put_left.new.places.items less
    c.in_ok-put_left.ensures c.loop-i.invariant

pub returns : goal.returns
returns c =
    let end : c.loop-i.i ≡ length c.args.segment.now = omega arith in
    left_end c.args.deleted.now c.args.segment.now c.loop-i.i c.loop-i.places.items end c.loop-i.invariant
