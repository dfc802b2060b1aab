use Rattle.std.proofs.Common.{◌∙◌, ◌≡◌, ap, arith, length, slice_index_or}
use Rattle.std.specs.Arc.{arc_value}
use Rattle.store_groups.proofs.BodyLists.{view_key, view_less}
use Rattle.store_groups.proofs.body.Body.key.Goals as goal

pub index-requires : goal.index-requires
index-requires c =
    let p = view_less (arc_value c.self.inside.keys).items c.self.inside.groups c.args.self.now c.args.i c.self.invariant c.self.view_is c.requires in
    let even : length c.self.inside.groups ≡ length (arc_value c.self.inside.keys).items = c.self.invariant in
    omega (arith, p, even, c.deref.result.now.ok.0, ap (λ v. length v.items) c.deref.ensures)

pub returns : goal.returns
returns c =
    view_key (arc_value c.self.inside.keys).items c.self.inside.groups c.args.self.now c.args.i c.index.result.now c.self.invariant c.self.view_is c.requires
    (c.index.ensures ∙ ap (λ v. slice_index_or v.items c.args.i c.index.result.now) c.deref.ensures)
