use Rattle.std.proofs.Common.{◌<◌, List, [], ℕ, length, arith, subst, sym}
use Rattle.store_state.specs.Parts.{IsWithout}
use Rattle.store_state.proofs.LeftRows.{without_more, without_none}
use Rattle.store_state.proofs.part.places_without.Goals as goal

pub loop-i-init : goal.loop-i-init
loop-i-init c = (
  subst (λ (places : List ℕ). IsWithout c.args.keys.now c.args.deleted.now [] places) (sym c.new-places.ensures.items)
      (without_none c.args.keys.now c.args.deleted.now),
  c.first-last.ensures,
)

pub loop-i-preserved : goal.loop-i-preserved
loop-i-preserved c =
    let less : c.loop-i.i < length c.args.segment.now = omega arith in (
      without_more c.args.keys.now c.args.deleted.now c.args.segment.now c.loop-i.places.items c.put_place.new.places.items c.loop-i.i less
          c.in_ok-put_place.ensures.places c.loop-i.invariant.0,
      c.in_ok-put_place.ensures.last,
    )
