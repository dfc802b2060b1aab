use Rattle.std.proofs.Common.{◌∙◌, ap}
use Rattle.std.specs.Arc.{arc_value}
use Rattle.store_groups.proofs.BodyLists.{view_found}
use Rattle.store_groups.proofs.body.Body.contains.Goals as goal

pub returns : goal.returns
returns c =
    c.is_some.ensures
    ∙ view_found c.place_of.result (arc_value c.self.inside.keys).items c.as_slice.result.now c.self.inside.groups c.args.self.now c.args.key.now c.self.invariant c.self.view_is
    (c.as_slice.ensures.value ∙ ap (λ v. v.items) c.deref.ensures) c.place_of.ensures
