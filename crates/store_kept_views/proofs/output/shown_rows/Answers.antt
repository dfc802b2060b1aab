use Rattle.std.proofs.Common.{subst, sym}
use Rattle.base_row_laws.specs.Bags.{SameBag}
use Rattle.plan_algebra.specs.KeptPlans.{query_rows}
use Rattle.store_kept_views.proofs.Shows.{rows_shown}
use Rattle.store_kept_views.proofs.output.shown_rows.Goals as goal

pub returns-clause-rows : goal.returns-clause-rows
returns-clause-rows c = λ table stands. subst (λ l. SameBag l (query_rows c.args.plan.now table)) (sym c.in_ok-bag.ensures.rows)
    (rows_shown c.args.plan.now c.args.groups.now table c.pages-pages.ensures.distinct stands)
