-- Groups that lie side by side, with their cells in one list.
use Rattle.std.specs.Prelude.{ℕ, ◌+◌, ◌-◌, ◌++◌, List, [], ◌∷◌, take, drop}
use Rattle.base_value.specs.Truth.{standing_rank}
use Rattle.store_groups.specs.declared.head.Head.{Head}
use Rattle.store_groups.specs.Groups.{Cell, Group, group}

-- how many cells they have together
abbrev pub total : List Head → ℕ
total [] = 0
total (h ∷ hs) = h.count + total hs

-- each has the cells after those of the groups before it
abbrev pub groups_in : List Head → List Cell → List Group
groups_in [] cs = []
groups_in (h ∷ hs) cs =
    group h.rows (standing_rank h.least) (take h.count cs) ∷ groups_in hs (drop h.count cs)

-- the cells from one place to another
abbrev pub part_of : ℕ → ℕ → List Cell → List Cell
part_of start end cs = take (end - start) (drop start cs)

-- with others in their place
abbrev pub with_part : ℕ → ℕ → List Cell → List Cell → List Cell
with_part start end part cs = take start cs ++ (part ++ drop end cs)
