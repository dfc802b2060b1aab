use Rattle.std.proofs.Common.{◌≡◌, List, Ok, subst}
use Rattle.std.proofs.lemmas.Result.{err_from_is_err_and}
use Rattle.app_sessions.specs.Sessions.{course_of}
use Rattle.app_sessions.specs.declared.session.Session.{Session}
use Rattle.sql_ast.specs.declared.statement.Statement.{Statement}
use Rattle.app_run.specs.SessionInputs.{work_of}
use Rattle.app_jobs.specs.Turns.{work_from}
use Rattle.app_inputs.specs.Views.{IfKnown}
use Rattle.app_run.proofs.Complete.{session_done}
use Rattle.app_run.proofs.Works.{same_work_refused, script_refused, session_printed}
use Rattle.app_run.proofs.session.session_text.Goals as goal

pub returns-in_err-session-clause-text : goal.returns-in_err-session-clause-text
returns-in_err-session-clause-text g c disk =
    let p = err_from_is_err_and c.from_residual.result c.from_residual.ensures.1 in
    rw (p.1, p.2) (script_refused (λ (s : Session). (course_of s).steps) c.args.folder.now c.args.script.now (g.F.Files.held c.args.files.now) _ c.in_err-session.ensures.input disk)

pub returns-in_err-directory-clause-text : goal.returns-in_err-directory-clause-text
returns-in_err-directory-clause-text g c disk =
    let later = g.F.Files.held c.begin.new.files in
    let p = err_from_is_err_and c.from_residual-in_err-directory.result c.from_residual-in_err-directory.ensures.1 in
    rw (p.1, p.2) (same_work_refused c.args.folder.now c.args.script.now (g.F.Files.held c.args.files.now) later (course_of c.in_ok-session.session).steps c.steps.result.now _ c.begin.ensures.files.held c.steps.ensures c.in_ok-session.ensures.input c.in_err-directory.ensures.input disk)

pub returns-clause-text : goal.returns-clause-text
returns-clause-text g c disk =
    let later = g.F.Files.held c.begin.new.files in
    let steps = (course_of c.in_ok-session.session).steps in
    let directory = c.in_ok-directory.directory in
    let work = work_from steps directory in
    let read = subst (λ (ss : List Statement). IfKnown later (λ folder. work_of c.args.folder.now folder ss ≡ Ok (work_from ss directory))) c.steps.ensures c.in_ok-directory.ensures.input in (
      session_printed c.args.folder.now c.args.script.now (g.F.Files.held c.args.files.now) later steps work c.in_ok-printed.printed.0.items c.in_ok-printed.printed.1 c.begin.ensures.files.held c.in_ok-session.ensures.input read c.in_ok-printed.ensures disk,
      session_done work c.in_ok-printed.printed.0.items c.in_ok-printed.printed.1 c.in_ok-printed.ensures,
    )
