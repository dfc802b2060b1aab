use Rattle.std.proofs.Common.{◌≡◌, ◌+◌, ◌++◌, map, take}
use Rattle.plan_tree_moves.proofs.narrow.put_after.Given as goal

abbrev pub invariant-loop-column : goal.invariant-loop-column
invariant-loop-column l = l.to.items
    ≡ l.fn.to.items ++ map (λ c. l.at + c) (take l.column-index l.own)
