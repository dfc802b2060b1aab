use Rattle.store_kept_views.proofs.ViewLists.{plans_more, kept_more}
use Rattle.store_kept_views.proofs.kept.move_views.Goals as goal

pub loop-view-preserved : goal.loop-view-preserved
loop-view-preserved c = (
  plans_more c.args.views.now c.loop-view.next.items c.push.new.self.items c.loop-view.view-index c.view-item.result c.in_ok-moved.moved c.loop-view-test.true c.view-item.is
      c.in_ok-moved.ensures.plan c.loop-view.invariant.0 c.in_ok-push.ensures.items,
  kept_more c.args.tables.now c.loop-view.next.items c.push.new.self.items c.in_ok-moved.moved c.in_ok-push.ensures.items c.loop-view.invariant.1 c.in_ok-moved.ensures.kept,
)
