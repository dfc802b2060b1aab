use Rattle.std.proofs.Common.{take}
use Rattle.std.specs.List.{All}
use Rattle.plan_predicate_sinking.specs.Narrow.{IsFound}
use Rattle.plan_tree_moves.proofs.narrow.are_found.Given as goal

abbrev pub invariant-loop-e : goal.invariant-loop-e
invariant-loop-e l = All (IsFound l.places l.whole) (take l.e-index l.es)
