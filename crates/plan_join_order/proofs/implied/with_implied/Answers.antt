use Rattle.plan_join_order.proofs.OfOrs.{said_same}
use Rattle.plan_join_order.proofs.implied.with_implied.Goals as goal

pub returns-clause-conditions : goal.returns-clause-conditions
returns-clause-conditions c =
    said_same c.args.parts.conditions _ c.in_ok-more.more _ c.as_slice-2.ensures
    c.in_ok-more.ensures c.in_ok-append.ensures
