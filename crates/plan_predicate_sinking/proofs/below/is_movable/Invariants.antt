use Rattle.std.proofs.Common.{take}
use Rattle.std.specs.List.{All}
use Rattle.plan_predicate_sinking.specs.Below.{IsReadBelow}
use Rattle.plan_predicate_sinking.proofs.below.is_movable.Given as goal

abbrev pub invariant-loop-column : goal.invariant-loop-column
invariant-loop-column l = All (IsReadBelow l.n l.es l.places) (take l.column-index l.column-items)
