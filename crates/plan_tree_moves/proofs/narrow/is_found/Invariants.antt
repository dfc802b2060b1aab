use Rattle.std.proofs.Common.{take}
use Rattle.std.specs.List.{All}
use Rattle.plan_predicate_sinking.specs.Narrow.{IsFoundAt}
use Rattle.plan_tree_moves.proofs.narrow.is_found.Given as goal

abbrev pub invariant-loop-column : goal.invariant-loop-column
invariant-loop-column l = All (IsFoundAt l.places l.whole) (take l.column-index l.column-items)
