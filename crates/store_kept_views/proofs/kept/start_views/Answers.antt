use Rattle.std.proofs.Common.{ap, ◌∙◌}
use Rattle.std.specs.Arc.{arc_value}
use Rattle.store_kept_views.specs.Kept.{plans_of}
use Rattle.store_kept_views.proofs.ReadingLists.{map_more}
use Rattle.store_kept_views.proofs.ViewLists.{kept_more, plans_push}
use Rattle.store_kept_views.proofs.kept.start_views.Goals as goal

pub loop-plan-preserved : goal.loop-plan-preserved
loop-plan-preserved c = (
  map_more (λ p. arc_value p) c.args.plans.now c.loop-plan.plan-index c.plan-item.result (plans_of c.loop-plan.views.items) (plans_of c.push.new.self.items) c.in_ok-view.view.0 c.loop-plan-test.true
      c.loop-plan.invariant.0 (c.in_ok-view.ensures.plan ∙ ap (λ p. arc_value p) c.plan-item.is)
      (plans_push c.loop-plan.views.items c.push.new.self.items c.in_ok-view.view c.in_ok-push.ensures.items),
  kept_more c.args.tables.now c.loop-plan.views.items c.push.new.self.items c.in_ok-view.view c.in_ok-push.ensures.items c.loop-plan.invariant.1 c.in_ok-view.ensures.kept,
)
