use Rattle.std.proofs.Common.{◌≡◌, ◌++◌}
use Rattle.expr_conditions.specs.Ranks.{columns_from}
use Rattle.plan_dependent_nodes.proofs.source_sight.with_left_row.Given as goal

abbrev pub invariant-loop-i : goal.invariant-loop-i
invariant-loop-i l = l.all ≡ l.fn.places ++ columns_from l.start l.i
