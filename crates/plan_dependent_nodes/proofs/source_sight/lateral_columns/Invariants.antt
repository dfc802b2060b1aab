use Rattle.std.proofs.Common.{◌≡◌, ◌++◌, map, take}
use Rattle.plan_dependent_nodes.proofs.LateralColumns.{up, near}
use Rattle.plan_dependent_nodes.proofs.source_sight.lateral_columns.Given as goal

abbrev pub invariant-loop-column : goal.invariant-loop-column
invariant-loop-column l = l.all ≡ map up (take l.column-index l.sight.outer.now)

abbrev pub invariant-loop-place : goal.invariant-loop-place
invariant-loop-place l =
    l.all ≡ map up l.sight.outer.now ++ map near (take l.place-index l.sight.so_far.now)
