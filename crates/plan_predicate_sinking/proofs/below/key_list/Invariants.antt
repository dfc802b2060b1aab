use Rattle.std.proofs.Common.{◌≡◌, map, take}
use Rattle.expr_scalar.specs.declared.expr.Expr.TheVariants.{Column}
use Rattle.plan_predicate_sinking.proofs.below.key_list.Given as goal

abbrev pub invariant-loop-column : goal.invariant-loop-column
invariant-loop-column l = l.es ≡ map Column (take l.column-index l.by)
