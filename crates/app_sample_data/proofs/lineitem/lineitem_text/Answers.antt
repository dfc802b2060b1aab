use Rattle.std.proofs.Common.{◌≡◌, arith}
use Rattle.app_sample_data.proofs.Steps.{all_pushed, line_pushed}
use Rattle.app_sample_data.proofs.lineitem.lineitem_text.Goals as goal

pub loop-key-preserved : goal.loop-key-preserved
loop-key-preserved c = line_pushed _ _ _ _ _ _ c.loop-key-test.true c.loop-key.invariant c.in_ok-push_order_lineitems.ensures

pub returns : goal.returns
returns c = let done : c.loop-key.key ≡ c.args.end = omega arith in all_pushed _ _ _ _ _ done c.loop-key.invariant
