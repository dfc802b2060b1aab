use Rattle.std.proofs.Common.{◌≡◌, map, take}
use Rattle.expr_scalar.specs.declared.expr.Expr.TheVariants.{Column}
use Rattle.plan_unnested_nodes.proofs.lists.column_list.Given as goal

abbrev pub invariant-loop-column : goal.invariant-loop-column
invariant-loop-column l = l.all ≡ map Column (take l.column-index l.columns)
