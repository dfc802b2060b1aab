use Rattle.std.proofs.lemmas.Result.{err_from_is_err_and}
use Rattle.app_run.proofs.Complete.{explained_done}
use Rattle.app_run.proofs.Works.{explained_printed, explained_refused}
use Rattle.app_run.proofs.explain.explain_text.Goals as goal

pub returns-in_err-statements-clause-text : goal.returns-in_err-statements-clause-text
returns-in_err-statements-clause-text g c disk =
    let p = err_from_is_err_and c.from_residual.result c.from_residual.ensures.1 in
    rw (p.1, p.2) (explained_refused c.args.script.now (g.F.Files.held c.args.files.now) _ c.in_err-statements.ensures.input disk)

pub returns-clause-text : goal.returns-clause-text
returns-clause-text g c disk =
    let (steps, expanded, means) = c.in_ok-printed.ensures in
    let text = c.in_ok-printed.printed.0.items in
    let s = c.in_ok-printed.printed.1 in (
      explained_printed c.args.script.now (g.F.Files.held c.args.files.now) c.in_ok-statements.statements steps text s c.in_ok-statements.ensures.input expanded means disk,
      explained_done steps text s means,
    )
