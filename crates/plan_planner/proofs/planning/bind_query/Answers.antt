use Rattle.plan_planner.proofs.TypedViews.{typed_bound}
use Rattle.plan_planner.proofs.planning.bind_query.Goals as goal

pub returns-clause-typed : goal.returns-clause-typed
returns-clause-typed c =
    typed_bound c.args.query.now c.views.inside.views.all c.in_ok-bound.bound c.views.invariant
    c.in_ok-bound.ensures
