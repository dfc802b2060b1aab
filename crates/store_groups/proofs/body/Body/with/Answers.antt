use Rattle.std.proofs.Common.{◌∙◌, ◌++◌, ◌∷◌, [], ap}
use Rattle.std.specs.Arc.{arc_value}
use Rattle.store_groups.proofs.BodyLists.{view_with}
use Rattle.store_groups.proofs.body.Body.with.Goals as goal

pub returns : goal.returns
returns c =
    view_with (arc_value c.self.inside.keys).items c.in_ok-keys-2.keys.value.items c.self.inside.groups c.in_ok-groups.groups c.args.self.now c.args.key c.args.group.now c.self.invariant c.self.view_is
    (ap (λ v. v.items) c.in_ok-keys-2.ensures.ok ∙ c.in_ok-push.ensures.items
    ∙ ap (λ l. l ++ c.args.key ∷ []) (c.in_ok-keys.ensures ∙ c.as_slice.ensures.value ∙ ap (λ v. v.items) c.deref.ensures)) c.in_ok-groups.ensures
