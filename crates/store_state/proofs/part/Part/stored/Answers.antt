use Rattle.std.proofs.Common.{◌≡◌, ◌∙◌, length, arith, ap, sym}
use Rattle.std.specs.Arc.{arc_value}
use Rattle.store_state.specs.Parts.{left_rows}
use Rattle.store_state.proofs.LeftRows.{all_left}
use Rattle.store_state.proofs.part.Part.stored.Goals as goal

pub returns-then-len-clause-whole : goal.returns-then-len-clause-whole
returns-then-len-clause-whole c =
    let deleted = (arc_value c.self.inside.deleted).items in
    let rows = c.self.inside.segment in
    let e : c.in_ok-segment.segment ≡ rows = c.in_ok-segment.ensures in
    let long : length (left_rows deleted rows) ≡ length rows = omega (arith, ap length c.self.view_is, ap length e) in
    sym c.self.view_is ∙ all_left deleted rows c.self.invariant.are long ∙ sym e
