use Rattle.std.proofs.Common.{arith, ◌<◌, length}
use Rattle.base_value.specs.declared.value.Value.TheVariants.{Null}
use Rattle.expr_operators.specs.Operators.{compared}
use Rattle.exec_column_operators.proofs.Zips.{zip_push}
use Rattle.exec_column_operators.proofs.comparison.compared_values.Goals as goal

pub loop-i-preserved : goal.loop-i-preserved
loop-i-preserved c =
    let h : c.loop-i.i < length c.args.a.now = omega arith in
    let l : c.loop-i.i < length c.args.b.now = omega arith in
    zip_push (compared c.args.comparison) c.args.a.now c.args.b.now c.loop-i.i Null Null c.loop-i.truths.items c.push.new.self.items c.in_ok-truth.truth
    h l c.loop-i.invariant c.in_ok-truth.ensures c.in_ok-push.ensures.items
