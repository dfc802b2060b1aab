use Rattle.std.proofs.Common.{◌≡◌, ◌∙◌, ap, subst, sym}
use Rattle.std.specs.List.{filter}
use Rattle.store_state.specs.Parts.{AreNear, is_between}
use Rattle.store_state.proofs.KeyRanges.{are_near}
use Rattle.store_state.proofs.part.Part.of_orders.Goals as goal

pub places_of_others-requires-clause-near : goal.places_of_others-requires-clause-near
places_of_others-requires-clause-near c =
    let range = c.self.inside.range in
    let rows = c.self.inside.segment in
    let keys = c.args.keys.now in
    let is : c.deref-2.result.now ≡ filter (is_between range.least range.greatest) keys =
    c.deref-2.ensures.value ∙ c.in_ok-near.ensures ∙ ap (filter (is_between range.least range.greatest)) c.as_slice.ensures in
    subst (λ near. AreNear keys near rows) (sym is) (are_near keys range.least range.greatest rows c.self.invariant.between)
