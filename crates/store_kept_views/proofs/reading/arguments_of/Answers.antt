use Rattle.std.proofs.Common.{List, map, ap, ◌∙◌}
use Rattle.base_row_laws.specs.Ranked.{Ranked}
use Rattle.base_value.specs.declared.value.Value.{Value}
use Rattle.plan_algebra.specs.declared.kept_plan.KeptAggregate.{KeptAggregate}
use Rattle.plan_algebra.specs.KeptPlans.{item_of}
use Rattle.store_kept_views.proofs.ReadingLists.{map_more}
use Rattle.store_kept_views.proofs.reading.arguments_of.Goals as goal

pub loop-aggregate-preserved : goal.loop-aggregate-preserved
loop-aggregate-preserved c =
    let f : KeptAggregate → List Value = λ a. map (λ (y : Ranked Value). (item_of a).0 y.values) c.args.rows.now.rows in
    map_more f c.args.aggregates.now c.loop-aggregate.aggregate-index c.aggregate-item.result c.loop-aggregate.columns.items c.push.new.self.items c.in_ok-column.column c.loop-aggregate-test.true
    c.loop-aggregate.invariant (c.in_ok-column.ensures ∙ ap f c.aggregate-item.is) c.in_ok-push.ensures.items
