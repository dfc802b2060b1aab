use Rattle.std.proofs.Common.{subst}
use Rattle.std.proofs.lemmas.Result.{err_from_is_err_and}
use Rattle.std.specs.declared.result.Result.TheVariants.{Err}
use Rattle.app_run.specs.JobViews.{IsSessionOfBytes}
use Rattle.app_run.proofs.JobReading.{script_found, script_unread}
use Rattle.app_run.proofs.ScriptFaults.{files_after_bytes}
use Rattle.app_run.proofs.job_input.read_session.Goals as goal

pub returns-in_err-bytes-clause-input : goal.returns-in_err-bytes-clause-input
returns-in_err-bytes-clause-input g c =
    let p = err_from_is_err_and c.from_residual.result c.from_residual.ensures.1 in
    rw (p.1, p.2) (script_unread c.args.name.now (g.F.Files.held c.args.files.now) _ c.in_err-bytes.ensures.input)

pub returns-in_err-session-clause-input : goal.returns-in_err-session-clause-input
returns-in_err-session-clause-input g c =
    let p = err_from_is_err_and c.from_residual-in_err-session.result c.from_residual-in_err-session.ensures.1 in
    let name = c.args.name.now in
    let made = c.in_err-session.field-0.0 in
    let session : IsSessionOfBytes name c.in_ok-bytes.bytes.items (Err made) =
    subst (λ bytes. IsSessionOfBytes name bytes (Err made)) c.deref.ensures.value c.in_err-session.ensures.session in
    rw (p.1, p.2) (script_found name (g.F.Files.held c.args.files.now) c.in_ok-bytes.bytes.items (Err made) c.in_ok-bytes.ensures.input session)

pub returns-in_err-session-clause-files : goal.returns-in_err-session-clause-files
returns-in_err-session-clause-files g c =
    let p = err_from_is_err_and c.from_residual-in_err-session.result c.from_residual-in_err-session.ensures.1 in
    let files = c.read_file.ensures.files in
    rw (p.1, p.2) (files_after_bytes g.F.Files.held g.F.Files.faults g.F.Files.misses _ c.args.files.now c.read_file.new.files c.in_err-session.ensures.error files.held files.faults files.misses)
