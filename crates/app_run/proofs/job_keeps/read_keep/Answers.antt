use Rattle.std.proofs.Common.{rules, ◌≡◌, Bool, Err, List, Ok, false, subst, true}
use Rattle.std.proofs.lemmas.Result.{err_from_is_err_and}
use Rattle.app_job_file.specs.Files.{keep_parts, refused_line}
use Rattle.app_job_file.specs.declared.refusal.JobRefusal.TheVariants.{BadKeep}
use Rattle.sql_ast.specs.declared.statement.Statement.{Statement}
use Rattle.app_inputs.specs.Inputs.{IsScriptOf, file_bytes, script_limit}
use Rattle.app_inputs.specs.Views.{Finds, IfKnown}
use Rattle.app_inputs.specs.declared.input_error.InputFault.TheVariants as fault
use Rattle.app_run.specs.JobKeeps.{PutsKeep, view_of_keep}
use Rattle.app_run.proofs.KeepScripts.{keep_added, keep_refused, keep_unread}
use Rattle.app_run.proofs.ScriptFaults.{files_after_bytes, refusal_of_bytes}
use Rattle.app_run.proofs.job_keeps.read_keep.Goals as goal

pub returns-in_err-statements-clause-input : goal.returns-in_err-statements-clause-input
returns-in_err-statements-clause-input g c =
    let held = g.F.Files.held c.args.files.now in
    let keep = keep_parts c.args.keep.now in
    let name : c.as_str.result.now ≡ keep.file = search rules in
    let p = err_from_is_err_and c.from_residual.result c.from_residual.ensures.1 in
    let made = c.in_err-statements.field-0.0 in
    let found = subst (λ n. Finds (λ (s : List Statement). s) held (λ folder. IsScriptOf n (file_bytes script_limit folder n)) (Err made)) name c.in_err-statements.ensures.input in
    rw (p.1, p.2) (keep_unread (λ (s : List Statement). s) held c.args.job.now keep c.args.all.now.views c.args.all.now.views made found)

pub returns-then-is_kept-clause-input : goal.returns-then-is_kept-clause-input
returns-then-is_kept-clause-input g c =
    let held = g.F.Files.held c.args.files.now in
    let old = c.args.all.now.views in
    let new = c.put_script.new.keeps.views in
    let keep = keep_parts c.args.keep.now in
    let statements = c.in_ok-statements.statements in
    let name : c.as_str.result.now ≡ keep.file = search rules in
    let slice : c.as_slice.result.now ≡ statements = search rules in
    let found = subst (λ n. IfKnown held (λ folder. IsScriptOf n (file_bytes script_limit folder n) (Ok statements))) name c.in_ok-statements.ensures.input in
    let puts = subst (λ (y : List Statement × Bool). PutsKeep old new (view_of_keep c.args.number keep.name y.0) y.1) (λ i. (slice i, c.if-is_kept.true i)) c.in_ok-is_kept.ensures.puts in
    keep_added held c.args.job.now c.args.number keep old new statements c.requires.number found puts

pub returns-clause-input : goal.returns-clause-input
returns-clause-input g c =
    let held = g.F.Files.held c.args.files.now in
    let old = c.args.all.now.views in
    let new = c.put_script.new.keeps.views in
    let keep = keep_parts c.args.keep.now in
    let statements = c.in_ok-statements.statements in
    let name : c.as_str.result.now ≡ keep.file = search rules in
    let slice : c.as_slice.result.now ≡ statements = search rules in
    let found = subst (λ n. IfKnown held (λ folder. IsScriptOf n (file_bytes script_limit folder n) (Ok statements))) name c.in_ok-statements.ensures.input in
    let puts = subst (λ (y : List Statement × Bool). PutsKeep old new (view_of_keep c.args.number keep.name y.0) y.1) (λ i. (slice i, c.if-is_kept.false i)) c.in_ok-is_kept.ensures.puts in
    keep_refused held c.args.job.now c.args.number keep old new statements c.refusal_of.result c.requires.number found puts c.refusal_of.ensures

pub returns-clause-files : goal.returns-clause-files
returns-clause-files g c =
    let files = c.read_statements.ensures.files in
    files_after_bytes g.F.Files.held g.F.Files.faults g.F.Files.misses c.refusal_of.result c.args.files.now c.read_statements.new.files
    (refusal_of_bytes c.args.job.now (fault.JobLine (refused_line BadKeep c.args.keep.now.line)) c.refusal_of.result (λ e. cc) c.refusal_of.ensures) files.held files.faults files.misses
