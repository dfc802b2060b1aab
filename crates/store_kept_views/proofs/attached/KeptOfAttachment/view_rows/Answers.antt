use Rattle.std.proofs.Common.{◌∙◌}
use Rattle.store_kept_views.proofs.RefreshMoves.{view_shown, view_wide}
use Rattle.store_kept_views.proofs.attached.KeptOfAttachment.view_rows.Goals as goal

pub returns-clause-rows : goal.returns-clause-rows
returns-clause-rows g c = λ state right.
    view_shown c.self.inside.kept (g.P.Plans.plans) state c.args.number c.plan.result.now c.args.plan.now (c.self.view_is ∙ right)
    c.plan.ensures (c.is_same_plan.ensures c.if-not-is_same_plan.false) c.in_ok-bag.bag.rows c.in_ok-bag.ensures.rows

pub returns-clause-width : goal.returns-clause-width
returns-clause-width g c =
    view_wide c.plan.result.now c.args.plan.now (c.is_same_plan.ensures c.if-not-is_same_plan.false) c.in_ok-bag.bag.width
    (c.in_ok-bag.ensures.width c.plan.result.now c.plan.ensures)
