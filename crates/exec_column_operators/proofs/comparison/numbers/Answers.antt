use Rattle.std.proofs.Common.{arith}
use Rattle.std.specs.Prelude.{pos}
use Rattle.exec_column_operators.specs.Exact.{number_compared}
use Rattle.exec_column_operators.proofs.Zips.{zip_push}
use Rattle.exec_column_operators.proofs.comparison.numbers.Goals as goal

pub loop-i-preserved : goal.loop-i-preserved
loop-i-preserved c =
    zip_push (λ x y. number_compared c.args.comparison c.args.s x c.args.t y) c.args.xs.now c.args.ys.now c.loop-i.i (pos 0) (pos 0) c.loop-i.truths.items c.push.new.self.items c.compared_number.result
    (omega arith) (omega arith) c.loop-i.invariant c.compared_number.ensures c.in_ok-push.ensures.items
