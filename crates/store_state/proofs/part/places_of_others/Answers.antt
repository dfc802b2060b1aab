use Rattle.std.proofs.Common.{◌<◌, List, [], ℕ, length, arith, subst, sym}
use Rattle.store_state.specs.Parts.{IsWith}
use Rattle.store_state.proofs.WantedRows.{with_more, with_none}
use Rattle.store_state.proofs.part.places_of_others.Goals as goal

pub loop-i-init : goal.loop-i-init
loop-i-init c = (
  subst (λ (places : List ℕ). IsWith c.args.keys.now c.args.deleted.now [] places) (sym c.in_ok-places.ensures.items)
      (with_none c.args.keys.now c.args.deleted.now),
  c.first-last.ensures,
)

pub loop-i-preserved : goal.loop-i-preserved
loop-i-preserved c =
    let less : c.loop-i.i < length c.args.segment.now = omega arith in (
      with_more c.args.keys.now c.args.deleted.now c.args.segment.now c.loop-i.places.items c.put_other.new.places.items c.loop-i.i less
          c.in_ok-put_other.ensures.places c.loop-i.invariant.0,
      c.in_ok-put_other.ensures.last,
    )
