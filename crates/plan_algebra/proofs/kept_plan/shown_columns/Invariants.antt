use Rattle.std.proofs.Common.{◌≡◌, map, take}
use Rattle.expr_scalar.specs.declared.expr.Expr.TheVariants.{Column}
use Rattle.plan_algebra.proofs.kept_plan.shown_columns.Given as goal

abbrev pub invariant-loop-place : goal.invariant-loop-place
invariant-loop-place l = l.all ≡ map Column (take l.place-index l.places)
