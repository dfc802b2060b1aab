use Rattle.std.proofs.Common.{◌≡◌, ◌+◌, arith, sym, ap, ◌∙◌, refl, length, [], ◌∷◌, ◌++◌}
use Rattle.base_columns.proofs.GatheredTexts.{ends_none, ends_more}
use Rattle.base_columns.proofs.texts.Texts.ends_at.Goals as goal

pub loop-place-init : goal.loop-place-init
loop-place-init c = (c.in_ok-ends.ensures.items ∙ sym ends_none, refl)

pub loop-place-preserved : goal.loop-place-preserved
loop-place-preserved c =
    let i = c.loop-place.place-index in
    let n : c.in-Some.next ≡ c.loop-place.total + length c.bytes-text.result.now = omega (arith, c.in-Some.ensures) in
    let m : c.push.new.self.items ≡ c.loop-place.ends.items ++ c.in-Some.next ∷ [] = c.in_ok-push.ensures.items ∙ ap (λ k. c.loop-place.ends.items ++ k ∷ []) (omega arith) in
    ends_more c.args.self.now c.args.places.now i c.loop-place.ends.items c.push.new.self.items c.loop-place.total c.in-Some.next (length c.bytes-text.result.now)
    c.loop-place-test.true c.loop-place.invariant.0 c.loop-place.invariant.1 (ap length c.bytes-text.ensures.value) n m
