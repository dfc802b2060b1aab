use Rattle.std.proofs.Common.{◌≡◌, ◌∙◌, ap, sym, length, arith, ◌-◌, ◌≤◌}
use Rattle.std.specs.Arc.{arc_slice_items}
use Rattle.base_text.proofs.Parts.{length-part_of, start_below}
use Rattle.base_text.proofs.text.Text.share.Goals as goal

pub overflow_add-result : goal.overflow_add-result
overflow_add-result c =
    let l : length c.args.self.now ≡ c.self.inside.end - c.self.inside.start =
    ap length (sym c.self.view_is) ∙ length-part_of (arc_slice_items c.self.inside.buffer) c.self.inside.start c.self.inside.end c.self.invariant in
    let b : c.self.inside.start ≤ c.self.inside.end = start_below (arc_slice_items c.self.inside.buffer) c.self.inside.start c.self.inside.end c.self.invariant in
    omega (arith, l, b)

pub overflow_add-result-2 : goal.overflow_add-result-2
overflow_add-result-2 c =
    let l : length c.args.self.now ≡ c.self.inside.end - c.self.inside.start =
    ap length (sym c.self.view_is) ∙ length-part_of (arc_slice_items c.self.inside.buffer) c.self.inside.start c.self.inside.end c.self.invariant in
    let b : c.self.inside.start ≤ c.self.inside.end = start_below (arc_slice_items c.self.inside.buffer) c.self.inside.start c.self.inside.end c.self.invariant in
    omega (arith, l, b)
