use Rattle.std.proofs.Common.{refl}
use Rattle.plan_unnested_nodes.proofs.OwnRows.{not_put, is_put}
use Rattle.plan_unnested_nodes.proofs.own_rows.put_asked.Goals as goal

pub returns-then-is_always_true : goal.returns-then-is_always_true
returns-then-is_always_true c = not_put (c.is_always_true.ensures c.if-is_always_true.true) refl

pub returns : goal.returns
returns c = is_put c.in_ok-e.ensures c.in_ok-push.ensures.ok
