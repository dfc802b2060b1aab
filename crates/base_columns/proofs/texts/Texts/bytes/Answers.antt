use Rattle.std.proofs.Common.{arith, ◌<◌, ◌≤◌, ◌∷◌, length, get_or}
use Rattle.std.proofs.lemmas.Grind.{common_steps}
use Rattle.base_columns.specs.Texts.{buffer_bytes}
use Rattle.base_columns.proofs.TextLists.{start_at, of-length}
use Rattle.base_columns.proofs.texts.Texts.bytes.Goals as goal

pub slice_bounds-result-count : goal.slice_bounds-result-count
slice_bounds-result-count c =
    let h : c.args.i < length c.self.inside.ends.items = grind (arith, of-length, c.self.view_is) in
    let low : get_or (0 ∷ c.self.inside.ends.items) c.args.i 0 ≤ get_or c.self.inside.ends.items c.args.i 0 = start_at (buffer_bytes c.self.inside.buffer) c.self.inside.ends.items c.args.i c.self.invariant h in
    grind (arith, common_steps, low, c.start_of-start.ensures)
