-- What a job that was played prints, and what is read of it.
use Rattle.std.proofs.Common.{◌≡◌, ◌∙◌, ℕ, ◌<◌, Bool, List, [], ◌∷◌, ap, arith, length, map, refl, slice_index_or, subst, suc, sym, Option, None, Some}
use Rattle.std.specs.Prelude.{if◌then◌else◌}
use Rattle.std.specs.Result.{result_err}
use Rattle.std.specs.declared.result.Result.{Result}
use Rattle.std.specs.declared.result.Result.TheVariants.{Ok, Err}
use Rattle.app_job_file.specs.Files.{JobParts}
use Rattle.app_sessions.specs.Asked.{job_session, job_sessions}
use Rattle.app_sessions.specs.Jobs.{JobAnswer, JobSession}
use Rattle.app_sessions.specs.declared.session.Session.{Session}
use Rattle.sql_ast.specs.declared.statement.Statement.{Statement}
use Rattle.sql_binder_steps.specs.declared.view.View.{View}
use Rattle.store_state.specs.Refresh.{Change}
use Rattle.base_io.specs.Outside.{Folder, file_of}
use Rattle.base_schema.specs.State.{State}
use Rattle.app_inputs.specs.Inputs.{BadInput, and_then}
use Rattle.app_run.specs.JobInputs.{AreFilesBehind, AreJobFiles, AreJobScripts, job_base, job_work}
use Rattle.app_jobs.specs.Works.{JobWork}
use Rattle.app_inputs.specs.JobFile.{job_in}
use Rattle.app_run.specs.JobMeaning.{MeansJob, session_with}
use Rattle.app_jobs.specs.JobTexts.{IsTextInOrder}
use Rattle.app_run.specs.JobKeeps.{AreKeeps}
use Rattle.app_run.specs.JobViews.{BeginWith}
use Rattle.app_jobs.specs.Sources.{steps_of, work_view}
use Rattle.app_jobs.specs.declared.sources.JobSources.{JobSources}
use Rattle.app_inputs.specs.declared.status.Status.{Status}
use Rattle.app_inputs.specs.declared.status.Status.TheVariants.{Done, SomeRefused}

abbrev of_parts : List Statement → List View → Bool → JobSession
of_parts steps first shows = record { steps = steps; first_views = first; shows_rows = shows }

-- sessions by what they print and with which views they begin
shown : (shows : Bool) (first : List View) (ss : List Session) → BeginWith shows first ss → job_sessions ss ≡ map (session_with shows first) (map steps_of ss)
shown shows first [] all = refl
shown shows first (s ∷ ss) all =
    let own = all 0 s (omega arith) in
    ap (λ vs. of_parts s.steps vs s.shows_rows ∷ job_sessions ss) own.1
    ∙ ap (λ b. of_parts s.steps first b ∷ job_sessions ss) own.0
    ∙ ap (λ l. session_with shows first s.steps ∷ l) (shown shows first ss (λ i d less. all (suc i) d (omega (arith, less))))

-- the text of a job is what its work means
pub job_means : (shows : Bool) (reads : Option (List ℕ)) (work : JobWork) (sources : JobSources) (job : JobAnswer) (text : List ℕ) (s : Status) → BeginWith shows sources.keeps.views sources.sessions.items
    → work.scripts ≡ map steps_of sources.sessions.items → work.keeps ≡ sources.keeps.views → IsTextInOrder work reads (job_sessions sources.sessions.items) job → text ≡ job.text → s ≡ (if job.is_clean then Done else SomeRefused)
    → MeansJob shows reads work text s
job_means shows reads work sources job text s all scripts keeps is text_is status_is =
    let same : job_sessions sources.sessions.items ≡ map (session_with shows work.keeps) work.scripts =
    shown shows sources.keeps.views sources.sessions.items all
    ∙ ap (λ (l : List (List Statement)). map (session_with shows sources.keeps.views) l) (sym scripts)
    ∙ ap (λ (vs : List View). map (session_with shows vs) work.scripts) (sym keeps) in
    (job, subst (λ (l : List JobSession). IsTextInOrder work reads l job) same is, text_is, status_is)

-- a refused job
pub job_refused : (dir job : List ℕ) (folder : Folder) (refused : BadInput) → job_in job (file_of folder job) ≡ Err refused → AreJobFiles dir job folder (Err refused)
job_refused dir job folder refused is = rw is refl

-- a refused kept view of a job
pub job_keep_refused : (dir job : List ℕ) (folder : Folder) (parts : JobParts) (refused : BadInput) → job_in job (file_of folder job) ≡ Ok parts → AreKeeps job folder 0 parts.keeps (Err refused)
    → AreJobFiles dir job folder (Err refused)
job_keep_refused dir job folder parts refused is views = rw is (Err refused, views, refl)

-- what the files behind the kept views give
pub job_behind : (dir job : List ℕ) (folder : Folder) (parts : JobParts) (keeps : List View) (inputs : Result JobWork BadInput) → job_in job (file_of folder job) ≡ Ok parts
    → AreKeeps job folder 0 parts.keeps (Ok keeps) → AreFilesBehind dir folder parts keeps inputs → AreJobFiles dir job folder inputs
job_behind dir job folder parts keeps inputs is views behind = rw is (Ok keeps, views, behind)

-- a refused script of a job
pub script_refused : (dir : List ℕ) (folder : Folder) (parts : JobParts) (keeps : List View) (refused : BadInput) → AreJobScripts folder parts.scripts (Err refused) → AreFilesBehind dir folder parts keeps (Err refused)
script_refused dir folder parts keeps refused are = (Err refused, are, refl)

-- a refused table, or a refresh file that is absent
pub base_refused : (dir : List ℕ) (folder : Folder) (parts : JobParts) (keeps : List View) (scripts : List (List Statement)) (refused : BadInput)
    → AreJobScripts folder parts.scripts (Ok scripts) → job_base dir parts.refreshes folder ≡ Err refused → AreFilesBehind dir folder parts keeps (Err refused)
base_refused dir folder parts keeps scripts refused are base = (Ok scripts, are, rw base refl)

-- all of them were read
pub behind_read : (dir : List ℕ) (folder : Folder) (parts : JobParts) (keeps : List View) (scripts : List (List Statement)) (base : State) (list : List Change)
    → AreJobScripts folder parts.scripts (Ok scripts) → job_base dir parts.refreshes folder ≡ Ok (base, list)
    → AreFilesBehind dir folder parts keeps (Ok (record { keeps = keeps; scripts = scripts; base = base; list = list; before = parts.before; senders = parts.senders; journal = parts.journal; kept = [] }))
behind_read dir folder parts keeps scripts base list are read = (Ok scripts, are, rw read refl)
