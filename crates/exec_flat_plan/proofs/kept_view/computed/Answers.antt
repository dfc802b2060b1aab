use Rattle.std.proofs.Common.{◌∙◌, ap, map}
use Rattle.expr_scalar.specs.declared.expr.Expr.TheVariants.{Column}
use Rattle.plan_algebra.specs.KeptPlans.{plain_aggregate}
use Rattle.exec_flat_plan.proofs.KeptRows.{rows_in_steps}
use Rattle.exec_flat_plan.proofs.kept_view.computed.Goals as goal

pub returns-clause-rows : goal.returns-clause-rows
returns-clause-rows g c =
    let plan = c.args.plan.now in
    rows_in_steps plan (g.T.Tables.rows c.args.tables.now plan.table) c.in_ok-scan.scan.rows
    c.in_ok-kept.kept.rows c.in_ok-groups.groups.rows c.in_ok-bag.bag.rows c.get.result.now
    c.as_slice-2.result.now c.as_slice-3.result.now c.as_slice-5.result.now
    c.in_ok-scan.ensures.rows c.get.ensures c.in_ok-kept.ensures.rows c.as_slice-2.ensures
    (c.as_slice-3.ensures ∙ c.in_ok-aggregates.ensures ∙ ap (map plain_aggregate) c.as_slice.ensures)
    c.in_ok-groups.ensures.rows
    (c.as_slice-5.ensures ∙ c.in_ok-columns.ensures ∙ ap (map Column) c.as_slice-4.ensures)
    c.in_ok-bag.ensures.rows
