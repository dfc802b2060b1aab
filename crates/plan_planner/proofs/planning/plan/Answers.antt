use Rattle.plan_planner.proofs.planning.plan.Goals as goal

pub returns : goal.returns
returns c =
    (c.in_ok-bound.bound, c.in_ok-bound.ensures.bound, c.in_ok-plan.ensures)
