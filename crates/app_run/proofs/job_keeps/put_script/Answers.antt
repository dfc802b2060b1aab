use Rattle.std.proofs.Common.{◌≡◌, None, Some, ap, refl, subst, sym}
use Rattle.std.specs.Option.{option_and_then}
use Rattle.std.proofs.lemmas.Result.{IfOk-weaker}
use Rattle.plan_planner.specs.Made.{kept_view}
use Rattle.app_run.specs.JobKeeps.{PutsKeep, kept_block, kept_of, view_of_keep}
use Rattle.app_run.proofs.job_keeps.put_script.Goals as goal

pub returns-in-Some-clause-puts : goal.returns-in-Some-clause-puts
returns-in-Some-clause-puts c =
    let name = c.args.name.now in
    let block : Some c.in-Some.query.now ≡ kept_block c.args.statements.now = rw c.in-Some.is at c.kept_block.ensures in
    let same : kept_of (kept_view c.args.number name c.in-Some.query.now) ≡ view_of_keep c.args.number name c.args.statements.now =
    ap (λ o. option_and_then (λ q. kept_of (kept_view c.args.number name q)) o) block in
    IfOk-weaker c.put_keep.result _ _ (λ is_kept puts. subst (λ o. PutsKeep c.args.keeps.now.views c.put_keep.new.keeps.views o is_kept) same puts) c.put_keep.ensures.puts

pub returns-in-None-clause-puts : goal.returns-in-None-clause-puts
returns-in-None-clause-puts c =
    let block : None ≡ kept_block c.args.statements.now = rw c.in-None.is at c.kept_block.ensures in
    rw (sym block) refl
