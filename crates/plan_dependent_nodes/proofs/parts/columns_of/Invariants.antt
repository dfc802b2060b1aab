use Rattle.std.proofs.Common.{◌≡◌, map}
use Rattle.expr_scalar.specs.declared.expr.Expr.TheVariants.{Column}
use Rattle.expr_conditions.specs.Ranks.{columns_from}
use Rattle.plan_dependent_nodes.proofs.parts.columns_of.Given as goal

abbrev pub invariant-loop-i : goal.invariant-loop-i
invariant-loop-i l = l.exprs ≡ map Column (columns_from l.start l.i)
