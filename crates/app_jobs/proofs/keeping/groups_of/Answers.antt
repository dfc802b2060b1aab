use Rattle.std.proofs.Common.{rules, ◌≡◌, ◌∙◌, ap, map}
use Rattle.std.specs.Arc.{arc_value}
use Rattle.store_kept_views.specs.Kept.{kept}
use Rattle.app_jobs.proofs.OwnPlans.{own_plans}
use Rattle.app_jobs.proofs.keeping.groups_of.Goals as goal

pub returns-clause-right : goal.returns-clause-right
returns-clause-right c =
    let plans = map (λ p. arc_value p) c.args.plans.now in
    let same : arc_value c.in_ok-tables.tables ≡ c.args.base.now = search rules in
    own_plans c.in_ok-groups.groups plans c.args.base.now (c.in_ok-groups.ensures ∙ ap (λ s. kept plans s) same)
