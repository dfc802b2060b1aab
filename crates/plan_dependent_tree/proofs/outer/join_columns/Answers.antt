use Rattle.plan_dependent_tree.proofs.Found.{join_found_all}
use Rattle.plan_dependent_tree.proofs.outer.join_columns.Goals as goal

pub returns : goal.returns
returns c =
    join_found_all c.args.s.now c.args.on.now c.new-found.ensures c.in_ok-source.ensures
    c.in_ok-expr.ensures
