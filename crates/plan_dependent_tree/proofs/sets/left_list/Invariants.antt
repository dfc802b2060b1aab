use Rattle.std.proofs.Common.{take}
use Rattle.sql_bound_query.specs.Meaning.{left_columns}
use Rattle.plan_dependent_tree.specs.SetGrowth.{ReadsOf}
use Rattle.plan_dependent_tree.proofs.sets.left_list.Given as goal

abbrev pub invariant-loop-column : goal.invariant-loop-column
invariant-loop-column l =
    ReadsOf l.places (left_columns (take l.column-index l.columns)) l.exprs
