use Rattle.app_show_plan.proofs.Firsts.{first_more}
use Rattle.app_show_plan.proofs.ways.are_first.Goals as goal

pub loop-place-preserved : goal.loop-place-preserved
loop-place-preserved c =
    first_more c.args.matched.now c.loop-place.place (0, 0) c.loop-place-test.true
    c.loop-place.invariant c.if-pair-place.false
