use Rattle.std.proofs.Common.{List, ap, arith, length}
use Rattle.store_groups.specs.Groups.{Group}
use Rattle.store_groups.proofs.ShelfLists.{groups_long}
use Rattle.store_groups.proofs.shelf.Shelf.len.Goals as goal

pub returns : goal.returns
returns c =
    let e = groups_long c.self.inside.heads.items c.self.inside.cells in
    let v = ap (λ (l : List Group). length l) c.self.view_is in
    omega (arith, c.len.ensures, c.self.inside.heads.ok.0, e, v)
