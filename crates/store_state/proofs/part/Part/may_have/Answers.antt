use Rattle.std.proofs.Common.{◌≡◌, false, ap, subst, sym, ◌∙◌}
use Rattle.std.specs.Arc.{arc_value}
use Rattle.std.specs.List.{list_any}
use Rattle.store_state.specs.Parts.{HasNone, is_between}
use Rattle.store_state.proofs.KeyRanges.{part_has_none}
use Rattle.store_state.proofs.part.Part.may_have.Goals as goal

pub returns : goal.returns
returns c = λ no.
    let deleted = (arc_value c.self.inside.deleted).items in
    let keys = c.args.keys.now in
    let range = c.self.inside.range in
    let out : list_any (is_between range.least range.greatest) keys ≡ false =
    ap (list_any (is_between range.least range.greatest)) (sym c.as_slice.ensures) ∙ sym c.has_one_of.ensures ∙ no in
    subst (HasNone keys) c.self.view_is (part_has_none keys deleted range.least range.greatest range.ascends c.self.inside.segment c.self.invariant out)
