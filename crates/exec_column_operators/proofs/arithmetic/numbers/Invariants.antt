use Rattle.std.proofs.Common.{◌≡◌, take, map}
use Rattle.base_value.specs.declared.value.Value.TheVariants.{Number}
use Rattle.expr_operators.specs.Operators.{computed}
use Rattle.exec_column_operators.specs.Zips.{zip_with}
use Rattle.exec_column_operators.specs.Exact.{exact_scale}
use Rattle.exec_column_operators.proofs.arithmetic.numbers.Given as goal

abbrev pub invariant-loop-i : goal.invariant-loop-i
invariant-loop-i l =
    map (Number (exact_scale l.operator l.s l.t)) l.zs.items
    ≡ zip_with (computed l.operator) (map (Number l.s) (take l.i l.xs)) (map (Number l.t) (take l.i l.ys))
