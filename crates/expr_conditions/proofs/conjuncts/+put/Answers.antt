use Rattle.std.proofs.Common.{subst}
use Rattle.expr_conditions.specs.Ranks.{PutAll}
use Rattle.expr_conditions.proofs.Ranks.{put_list, put_none, put_more}
use Rattle.expr_conditions.proofs.Implied.{put_or}
use Rattle.expr_conditions.proofs.conjuncts.+put.Goals as goal

pub put_condition-returns-in_ok-put_conditions-in-All : goal.put_condition-returns-in_ok-put_conditions-in-All
put_condition-returns-in_ok-put_conditions-in-All t c =
    put_list c.args.places.now c.args.e.now c.in-All.es c.args.to.now _ (subst (λ l. PutAll c.args.places.now l c.args.to.now c.put_conditions.new.to) c.as_slice.ensures c.in_ok-put_conditions-in-All.ensures) c.in-All.is

pub put_condition-returns-in_ok-put_factors-in-Any : goal.put_condition-returns-in_ok-put_factors-in-Any
put_condition-returns-in_ok-put_factors-in-Any t c =
    put_or c.args.places.now c.args.e.now c.in-Any.parts _ c.args.to.now _ _ c.in_ok-put_renamed-in-Any.ensures c.in_ok-put_factors-in-Any.ensures c.as_slice-in-Any.ensures c.in-Any.is

pub put_conditions-loop-e-init : goal.put_conditions-loop-e-init
put_conditions-loop-e-init t c = put_none c.args.places.now c.args.to.now

pub put_conditions-loop-e-preserved : goal.put_conditions-loop-e-preserved
put_conditions-loop-e-preserved t c =
    put_more c.args.places.now c.args.es.now c.args.to.now c.loop-e.to _ c.loop-e.e-index c.e-item.result c.loop-e-test.true c.e-item.is c.loop-e.invariant c.in_ok-put_condition.ensures
