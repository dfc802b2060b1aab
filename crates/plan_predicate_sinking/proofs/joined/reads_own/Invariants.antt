use Rattle.std.proofs.Common.{◌<◌, ◌≤◌, ◌⊎◌, take}
use Rattle.std.specs.List.{All}
use Rattle.plan_predicate_sinking.proofs.joined.reads_own.Given as goal

abbrev pub invariant-loop-column : goal.invariant-loop-column
invariant-loop-column l =
    All (λ c. (c < l.m) ⊎ ((l.low ≤ c) × (c < l.high))) (take l.column-index l.column-items)
