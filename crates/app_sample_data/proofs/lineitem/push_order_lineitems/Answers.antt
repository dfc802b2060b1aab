use Rattle.std.proofs.Common.{◌≡◌, ◌+◌, ◌%◌, arith}
use Rattle.app_sample_data.proofs.Steps.{all_pushed, line_pushed}
use Rattle.app_sample_data.specs.Lines.{order_lineitems}
use Rattle.app_sample_data.proofs.lineitem.push_order_lineitems.Goals as goal

pub loop-line-preserved : goal.loop-line-preserved
loop-line-preserved c = line_pushed _ _ _ _ _ _ c.loop-line-test.true c.loop-line.invariant c.in_ok-push_lineitem.ensures

pub returns : goal.returns
unfolding order_lineitems
returns c = let done : c.loop-line.line ≡ 2 + c.args.key % 4 = omega arith in all_pushed _ _ _ _ _ done c.loop-line.invariant
