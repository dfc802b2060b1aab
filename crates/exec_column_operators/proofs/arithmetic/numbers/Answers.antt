use Rattle.std.proofs.Common.{arith, get_or, rules}
use Rattle.std.specs.Prelude.{pos, FitsSigned}
use Rattle.std.specs.Int.{w64}
use Rattle.std.proofs.lemmas.Int.{to_z-of_z}
use Rattle.base_value.specs.declared.value.Value.TheVariants.{Number}
use Rattle.expr_operators.specs.Operators.{computed}
use Rattle.exec_column_operators.specs.Exact.{exact_scale}
use Rattle.exec_column_operators.proofs.Zips.{zip_step}
use Rattle.exec_column_operators.proofs.arithmetic.numbers.Goals as goal

pub loop-i-preserved : goal.loop-i-preserved
loop-i-preserved c =
    let f : FitsSigned w64 (get_or c.args.xs.now c.loop-i.i (pos 0)) = search rules in
    let g : FitsSigned w64 (get_or c.args.ys.now c.loop-i.i (pos 0)) = search rules in
    let k : FitsSigned w64 c.in-Some.z = search rules in
    let e = simp to_z-of_z at c.in-Some.ensures in
    let o = simp to_z-of_z at c.in_ok-push.ensures.items in
    zip_step (Number (exact_scale c.args.operator c.args.s c.args.t)) (computed c.args.operator) (Number c.args.s) (Number c.args.t)
    c.args.xs.now c.args.ys.now c.loop-i.i (pos 0) (pos 0) c.loop-i.zs.items c.push.new.self.items c.in-Some.z
    (omega arith) (omega arith) c.loop-i.invariant e o
