use Rattle.std.proofs.Common.{◌≡◌, ◌∙◌, Some, length, subst}
use Rattle.std.specs.Prelude.{slice_get}
use Rattle.std.proofs.lemmas.Result.{IfOk-weaker}
use Rattle.plan_planner.specs.Made.{kept_view}
use Rattle.app_run.proofs.KeepScripts.{last_put, puts_bound}
use Rattle.app_run.proofs.job_keeps.put_keep.Goals as goal

pub returns-in-Ok-clause-puts : goal.returns-in-Ok-clause-puts
returns-in-Ok-clause-puts c =
    let old = c.args.keeps.now.views in
    let made = rw c.in-Ok.is at c.keep.ensures in
    let last = last_put old c.keep.new.self made.0 made.2 in
    let at : slice_get c.keep.new.self (length c.args.keeps.now.plans.items) ≡ Some made.0 =
    subst (λ n. slice_get c.keep.new.self n ≡ Some made.0) c.requires last in
    IfOk-weaker c.put_plan.result _ _
    (λ is_kept same. puts_bound (kept_view c.args.number c.args.name.now c.args.query.now) old c.put_plan.new.keeps.views made.0 is_kept made.1 (c.put_plan.ensures.views ∙ made.2) same)
    (c.put_plan.ensures.kept made.0 at)
