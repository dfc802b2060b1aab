use Rattle.base_columns.proofs.GatheredTexts.{bytes_more}
use Rattle.base_columns.proofs.texts.Texts.bytes_at.Goals as goal

pub loop-place-preserved : goal.loop-place-preserved
loop-place-preserved c =
    bytes_more c.args.self.now c.args.places.now c.loop-place.place-index c.loop-place.bytes.items c.extend_from_slice.new.self.items c.bytes.result.now
    c.loop-place-test.true c.loop-place.invariant c.bytes.ensures.value c.in_ok-extend_from_slice.ensures.items
