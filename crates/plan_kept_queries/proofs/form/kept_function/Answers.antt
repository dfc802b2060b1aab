use Rattle.plan_kept_queries.proofs.FormLists.{count_found, sum_found}
use Rattle.plan_kept_queries.proofs.form.kept_function.Goals as goal

pub returns-in_ok-e-in-Count : goal.returns-in_ok-e-in-Count
returns-in_ok-e-in-Count c =
    count_found c.args.function c.args.scale c.args.e.now c.in_ok-e-in-Count.e c.in-Count.is c.in_ok-e-in-Count.ensures.0 c.in_ok-e-in-Count.ensures.1

pub returns-in_ok-e-in-Sum : goal.returns-in_ok-e-in-Sum
returns-in_ok-e-in-Sum c =
    sum_found c.args.function c.args.scale c.args.e.now c.in_ok-e-in-Sum.e c.in-Sum.is c.in_ok-e-in-Sum.ensures.0 c.in_ok-e-in-Sum.ensures.1
