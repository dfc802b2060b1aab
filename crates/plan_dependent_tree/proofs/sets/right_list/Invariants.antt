use Rattle.std.proofs.Common.{take}
use Rattle.sql_bound_query.specs.Meaning.{right_columns}
use Rattle.plan_dependent_tree.specs.SetGrowth.{ReadsOf}
use Rattle.plan_dependent_tree.proofs.sets.right_list.Given as goal

abbrev pub invariant-loop-column : goal.invariant-loop-column
invariant-loop-column l =
    ReadsOf l.places (right_columns (take l.column-index l.columns)) l.exprs
