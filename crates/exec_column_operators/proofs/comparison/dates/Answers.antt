use Rattle.std.proofs.Common.{arith, ap, ◌∙◌}
use Rattle.exec_column_operators.specs.Exact.{dates_compared}
use Rattle.exec_column_operators.proofs.Zips.{zip_push}
use Rattle.exec_column_operators.proofs.comparison.dates.Goals as goal

pub loop-i-preserved : goal.loop-i-preserved
loop-i-preserved c =
    zip_push (dates_compared c.args.comparison) c.args.xs.now c.args.ys.now c.loop-i.i c.index-xs-i.result c.index-ys-i.result c.loop-i.truths.items c.push.new.self.items c.compared_date.result
    (omega arith) (omega arith) c.loop-i.invariant
    (c.compared_date.ensures ∙ ap (λ d. dates_compared c.args.comparison d c.index-ys-i.result) c.index-xs-i.is ∙ ap (dates_compared c.args.comparison _) c.index-ys-i.is)
    c.in_ok-push.ensures.items
