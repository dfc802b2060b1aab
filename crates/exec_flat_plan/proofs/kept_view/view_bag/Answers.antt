use Rattle.std.proofs.Common.{subst, sym}
use Rattle.base_row_laws.specs.Bags.{SameBag}
use Rattle.base_row_laws.proofs.Bags.{SameBag-refl}
use Rattle.plan_algebra.specs.KeptPlans.{query_rows}
use Rattle.exec_flat_plan.proofs.kept_view.view_bag.Goals as goal

pub returns-in_ok-bag-in-None-clause-rows : goal.returns-in_ok-bag-in-None-clause-rows
returns-in_ok-bag-in-None-clause-rows g c =
    let own = query_rows c.args.plan.now (g.T.Tables.rows c.args.tables.now c.args.plan.now.table) in
    subst (λ rows. SameBag rows own) (sym c.in_ok-bag-in-None.ensures.rows) (SameBag-refl own)
