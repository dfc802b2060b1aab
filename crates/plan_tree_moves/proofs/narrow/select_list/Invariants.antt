use Rattle.std.proofs.Common.{◌≡◌, ◌+◌, map, take}
use Rattle.expr_scalar.specs.declared.expr.Expr.TheVariants.{Column}
use Rattle.plan_tree_moves.proofs.narrow.select_list.Given as goal

abbrev pub invariant-loop-column : goal.invariant-loop-column
invariant-loop-column l = l.es ≡ map (λ c. Column (l.n + c)) (take l.column-index l.own)
