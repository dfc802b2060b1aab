use Rattle.std.proofs.Common.{◌≡◌, ◌≤◌, arith, ap, length, sym, get_or, ◌∷◌}
use Rattle.std.proofs.lemmas.List.{length-take-le}
use Rattle.base_columns.specs.Texts.{buffer_bytes}
use Rattle.base_columns.proofs.TextLists.{last_within}
use Rattle.base_columns.proofs.texts.Texts.stored.Goals as goal

pub slice_bounds-of_printable-end : goal.slice_bounds-of_printable-end
slice_bounds-of_printable-end c =
    let e : c.start_of-end.result ≡ get_or (0 ∷ c.self.inside.ends.items) (length c.self.inside.ends.items) 0 = rw c.as_slice-ends.ensures.value at c.start_of-end.ensures in
    let w : c.start_of-end.result ≤ length (buffer_bytes c.self.inside.buffer) = last_within (buffer_bytes c.self.inside.buffer) c.self.inside.ends.items c.start_of-end.result c.self.invariant e in
    let l : length c.all_bytes.result.now ≡ length (buffer_bytes c.self.inside.buffer) = ap length c.all_bytes.ensures in
    sym (length-take-le c.start_of-end.result c.all_bytes.result.now (omega (arith, w, l)))
