-- Groups over a base are those of their own plans.
use Rattle.std.proofs.Common.{◌≡◌, ◌∙◌, List, ap, sym}
use Rattle.base_schema.specs.State.{State}
use Rattle.plan_algebra.specs.declared.kept_plan.KeptPlan.{KeptPlan}
use Rattle.store_kept_views.specs.Kept.{KeptRows, kept}

pub own_plans : (groups : KeptRows) (plans : List KeptPlan) (base : State) → groups ≡ kept plans base → groups ≡ kept groups.plans base
own_plans groups plans base is = is ∙ ap (λ (k : KeptRows). kept k.plans base) (sym is)
