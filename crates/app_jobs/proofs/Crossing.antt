-- The groups of kept views may cross threads, from the lowest types up.
use denote.RattleType.{RattleType}
use denote.Param.Send.{IsSend, IsSync, sendable}
use Rattle.std.proofs.Crossing.{crosses}
use Rattle.base_text.specs.contracts.text.Text as Text
use Rattle.expr_scalar.proofs.expr.Expr.TheLaws.TheKnot.{crosses as expr_crosses}
use Rattle.expr_scalar.specs.contracts.expr.Expr as Expr
use Rattle.plan_algebra.specs.contracts.kept_plan.KeptAggregate as KeptAggregate
use Rattle.plan_algebra.specs.contracts.kept_plan.KeptPlan as KeptPlan
use Rattle.store_groups.proofs.groups.Groups.TheSendSync.{the_send as groups_send, the_sync as groups_sync}
use Rattle.store_state.proofs.state.State.TheSendSync.{the_send as state_send, the_sync as state_sync}
use Rattle.store_kept_views.specs.contracts.attached.KeptOf as KeptOf
use Rattle.store_kept_views.specs.contracts.kept.Kept as Kept
use Rattle.store_kept_views.specs.contracts.view.View as View
use Rattle.store_kept_views.specs.declared.attached.Plans.{Ghosts}

text_send : IsSend Text.the_row
text_send = search (sendable, crosses) depth 60 fits 20000

text_sync : IsSync Text.the_row
text_sync = search (sendable, crosses) depth 60 fits 20000

expr_send : IsSend Expr.the_row
expr_send = search (expr_crosses, text_send, sendable, crosses) depth 60 fits 20000

expr_sync : IsSync Expr.the_row
expr_sync = search (expr_crosses, text_sync, sendable, crosses) depth 60 fits 20000

aggregate_send : IsSend KeptAggregate.the_row
aggregate_send = search (expr_send, sendable, crosses) depth 60 fits 20000

aggregate_sync : IsSync KeptAggregate.the_row
aggregate_sync = search (expr_sync, sendable, crosses) depth 60 fits 20000

plan_send : IsSend KeptPlan.the_row
plan_send = search (aggregate_send, expr_send, sendable, crosses) depth 60 fits 20000

plan_sync : IsSync KeptPlan.the_row
plan_sync = search (aggregate_sync, expr_sync, sendable, crosses) depth 60 fits 20000

view_send : IsSend View.the_row
view_send = search (plan_send, plan_sync, groups_send, sendable, crosses) depth 60 fits 20000

view_sync : IsSync View.the_row
view_sync = search (plan_send, plan_sync, groups_sync, sendable, crosses) depth 60 fits 20000

kept_send : IsSend Kept.the_row
kept_send = search (view_send, view_sync, state_send, state_sync, sendable, crosses) depth 60 fits 20000

kept_sync : IsSync Kept.the_row
kept_sync = search (view_send, view_sync, state_send, state_sync, sendable, crosses) depth 60 fits 20000

pub kept_of_send : (P : RattleType) (g : Ghosts P.Denot) → IsSend P → IsSend (KeptOf.the_row P g)
kept_of_send P g s = search (kept_send, sendable, crosses) depth 60 fits 20000

pub kept_of_sync : (P : RattleType) (g : Ghosts P.Denot) → IsSync P → IsSync (KeptOf.the_row P g)
kept_of_sync P g s = search (kept_sync, sendable, crosses) depth 60 fits 20000
