use Rattle.std.proofs.Common.{◌≡◌}
use Rattle.base_value.specs.declared.value.Value.TheVariants.{Null}
use Rattle.plan_predicate_sinking.proofs.Narrowing.{every_more}
use Rattle.plan_join_order.proofs.LateralSteps.{null_end}
use Rattle.plan_join_order.proofs.lateral.are_null.Goals as goal

pub loop-value-preserved : goal.loop-value-preserved
loop-value-preserved c =
    every_more (λ v. v ≡ Null) c.as_slice-value-items.result.now c.loop-value.value-index
    c.value-item.result c.loop-value-test.true c.value-item.is
    (c.is_null.ensures c.if-not-is_null.false) c.loop-value.invariant

pub returns : goal.returns
returns c = λ t.
    null_end c.args.aggregates.now c.in_ok-values.values c.as_slice-value-items.result.now
    c.loop-value.value-index c.in_ok-values.ensures c.as_slice-value-items.ensures
    c.loop-value-test.false c.loop-value.invariant
