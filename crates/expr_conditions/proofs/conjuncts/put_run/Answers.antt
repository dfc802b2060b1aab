use Rattle.std.proofs.Common.{rules}
use Rattle.expr_conditions.proofs.Ranks.{run_step}
use Rattle.expr_conditions.proofs.conjuncts.put_run.Goals as goal

pub loop-i-preserved : goal.loop-i-preserved
loop-i-preserved c = run_step _ _ _ c.args.from c.loop-i.i c.in_ok-place.place c.loop-i.invariant (search rules) (search rules)
