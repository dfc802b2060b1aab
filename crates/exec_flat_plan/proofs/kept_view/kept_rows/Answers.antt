use Rattle.std.proofs.Common.{◌≡◌, ◌+◌, ◌∙◌, ap, arith}
use Rattle.std.specs.Prelude.{length}
use Rattle.base_row_laws.proofs.OfBags.{OfBag-length}
use Rattle.plan_algebra.specs.KeptPlans.{query_rows}
use Rattle.exec_flat_plan.proofs.kept_view.kept_rows.Goals as goal

pub returns-clause-steps : goal.returns-clause-steps
returns-clause-steps g c =
    let own = query_rows c.args.plan.now (g.T.Tables.rows c.args.tables.now c.args.plan.now.table) in
    c.add.ensures
    ∙ ap (λ n. c.args.steps.now + n) (c.len.ensures ∙ OfBag-length.alike c.in_ok-bag.bag.rows own c.in_ok-bag.ensures.rows)

pub returns-clause-most : goal.returns-clause-most
returns-clause-most g c =
    let own = query_rows c.args.plan.now (g.T.Tables.rows c.args.tables.now c.args.plan.now.table) in
    let same : c.add.new.self ≡ c.args.steps.now + length own = returns-clause-steps g c in
    omega (arith, same)
