use Rattle.std.proofs.Common.{◌≡◌, ◌∙◌, List, Some, ap, subst, sym}
use Rattle.std.specs.Prelude.{slice_get}
use Rattle.base_row_laws.specs.Bags.{SameBag}
use Rattle.base_schema.specs.State.{State, table_rows}
use Rattle.plan_algebra.specs.declared.kept_plan.KeptPlan.{KeptPlan}
use Rattle.store_kept_views.specs.Kept.{KeptRows}
use Rattle.plan_algebra.specs.KeptPlans.{query_rows}
use Rattle.store_kept_views.proofs.attached.KeptOf.rows.Goals as goal

pub returns : goal.returns
returns g c = λ state plan right at.
    let is = c.self.view_is ∙ right in
    subst (λ (t : State). SameBag c.in_ok-rows.rows.rows (query_rows plan (table_rows t plan.table))) (ap (λ (k : KeptRows). k.tables) is)
    (c.in_ok-rows.ensures.rows plan (subst (λ (ps : List KeptPlan). slice_get ps c.args.i ≡ Some plan) (sym (ap (λ (k : KeptRows). k.plans) is)) at))
