use Rattle.std.proofs.Common.{◌∙◌, ◌≡◌, ap, arith, length}
use Rattle.std.specs.Arc.{arc_value}
use Rattle.store_groups.proofs.BodyLists.{even_without, view_less, view_without}
use Rattle.std.specs.List.{remove}
use Rattle.store_groups.proofs.body.Body.without.Goals as goal

pub remove-requires : goal.remove-requires
remove-requires c =
    let p = view_less (arc_value c.self.inside.keys).items c.self.inside.groups c.args.self.now c.args.i c.self.invariant c.self.view_is c.requires in
    let even : length c.self.inside.groups ≡ length (arc_value c.self.inside.keys).items = c.self.invariant in
    omega (arith, p, even, c.in_ok-keys.keys.ok.0, ap length (c.in_ok-keys.ensures ∙ c.as_slice.ensures.value ∙ ap (λ v. v.items) c.deref.ensures))

pub invariant_of-result : goal.invariant_of-result
invariant_of-result c =
    even_without (arc_value c.self.inside.keys).items c.in_ok-keys-2.keys.value.items c.self.inside.groups c.in_ok-groups.groups c.args.i c.self.invariant
    (ap (λ v. v.items) c.in_ok-keys-2.ensures.ok ∙ c.remove.ensures.items
    ∙ ap (λ l. remove l c.args.i) (c.in_ok-keys.ensures ∙ c.as_slice.ensures.value ∙ ap (λ v. v.items) c.deref.ensures)) c.in_ok-groups.ensures

pub returns : goal.returns
returns c =
    view_without (arc_value c.self.inside.keys).items c.in_ok-keys-2.keys.value.items c.self.inside.groups c.in_ok-groups.groups c.args.self.now c.args.i c.self.invariant c.self.view_is
    (ap (λ v. v.items) c.in_ok-keys-2.ensures.ok ∙ c.remove.ensures.items
    ∙ ap (λ l. remove l c.args.i) (c.in_ok-keys.ensures ∙ c.as_slice.ensures.value ∙ ap (λ v. v.items) c.deref.ensures)) c.in_ok-groups.ensures
