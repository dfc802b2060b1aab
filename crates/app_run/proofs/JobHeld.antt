-- What was read of a job's inputs one after another, where the contents of the files may be known.
use Rattle.std.proofs.Common.{◌≡◌, ℕ, List, [], Option, None, Some, subst}
use Rattle.std.specs.declared.result.Result.{Result}
use Rattle.std.specs.declared.result.Result.TheVariants.{Ok, Err}
use Rattle.app_job_file.specs.Files.{JobParts}
use Rattle.sql_ast.specs.declared.statement.Statement.{Statement}
use Rattle.sql_binder_steps.specs.declared.view.View.{View}
use Rattle.store_state.specs.Refresh.{Change}
use Rattle.base_io.specs.Outside.{Folder, file_of}
use Rattle.base_schema.specs.State.{State}
use Rattle.app_run.specs.JobKeeps.{AreKeeps}
use Rattle.app_run.specs.JobInputs.{AreFilesBehind, AreJobFiles, AreJobScripts, job_base}
use Rattle.app_jobs.specs.Works.{JobWork}
use Rattle.app_inputs.specs.JobFile.{job_in}
use Rattle.app_inputs.specs.Views.{Explains, Finds, IfKnown, refused_view}
use Rattle.app_inputs.specs.declared.input_error.InputError.{InputError}
use Rattle.app_inputs.specs.declared.input_error.InputError.TheVariants as error
use Rattle.app_run.proofs.JobPlayed.{base_refused, behind_read, job_behind, job_keep_refused, job_refused, script_refused}

-- what is known of files that stay is known of them at first
pub known_first : (held later : Option Folder) (P : Folder → Type 0) → later ≡ held → IfKnown later P → IfKnown held P
known_first held later P same known = subst (λ h. IfKnown h P) same known

-- a refused job
pub job_unread : {A : Type 0} → (view : A → JobWork) (dir job : List ℕ) (held : Option Folder) (made : InputError) → Explains held (λ folder. job_in job (file_of folder job)) made
    → Finds view held (AreJobFiles dir job) (Err made)
job_unread view dir job held (error.Unread unread) explains = tt
job_unread view dir job None (error.Refused refusal) explains = tt
job_unread view dir job (Some folder) (error.Refused refusal) explains = job_refused dir job folder (refused_view refusal) explains

-- a refused kept view of a job
pub keeps_unread : {A B : Type 0} → (views : B → List View) (view : A → JobWork) (dir job : List ℕ) (held : Option Folder) (parts : JobParts) (made : InputError)
    → IfKnown held (λ folder. job_in job (file_of folder job) ≡ Ok parts) → Finds views held (λ folder. AreKeeps job folder 0 parts.keeps) (Err made)
    → Finds view held (AreJobFiles dir job) (Err made)
keeps_unread views view dir job held parts (error.Unread unread) is keeps = tt
keeps_unread views view dir job None parts (error.Refused refusal) is keeps = tt
keeps_unread views view dir job (Some folder) parts (error.Refused refusal) is keeps = job_keep_refused dir job folder parts (refused_view refusal) is keeps

-- what the files behind the kept views give
pub files_found : {A : Type 0} → (view : A → JobWork) (dir job : List ℕ) (held : Option Folder) (parts : JobParts) (keeps : List View) (result : Result A InputError)
    → IfKnown held (λ folder. job_in job (file_of folder job) ≡ Ok parts) → IfKnown held (λ folder. AreKeeps job folder 0 parts.keeps (Ok keeps))
    → Finds view held (λ folder. AreFilesBehind dir folder parts keeps) result → Finds view held (AreJobFiles dir job) result
files_found view dir job None parts keeps (Ok read) is kept behind = tt
files_found view dir job (Some folder) parts keeps (Ok read) is kept behind = job_behind dir job folder parts keeps (Ok (view read)) is kept behind
files_found view dir job held parts keeps (Err (error.Unread unread)) is kept behind = tt
files_found view dir job None parts keeps (Err (error.Refused refusal)) is kept behind = tt
files_found view dir job (Some folder) parts keeps (Err (error.Refused refusal)) is kept behind = job_behind dir job folder parts keeps (Err (refused_view refusal)) is kept behind

-- a refused script of a job
pub scripts_unread : {A B : Type 0} → (views : B → List (List Statement)) (view : A → JobWork) (dir : List ℕ) (held : Option Folder) (parts : JobParts) (keeps : List View) (made : InputError)
    → Finds views held (λ folder. AreJobScripts folder parts.scripts) (Err made) → Finds view held (λ folder. AreFilesBehind dir folder parts keeps) (Err made)
scripts_unread views view dir held parts keeps (error.Unread unread) are = tt
scripts_unread views view dir None parts keeps (error.Refused refusal) are = tt
scripts_unread views view dir (Some folder) parts keeps (error.Refused refusal) are = script_refused dir folder parts keeps (refused_view refusal) are

-- a refused table, or a refresh file that is absent
pub base_unread : {A : Type 0} → (view : A → JobWork) (dir : List ℕ) (held : Option Folder) (parts : JobParts) (keeps : List View) (scripts : List (List Statement)) (made : InputError)
    → IfKnown held (λ folder. AreJobScripts folder parts.scripts (Ok scripts)) → Explains held (job_base dir parts.refreshes) made
    → Finds view held (λ folder. AreFilesBehind dir folder parts keeps) (Err made)
base_unread view dir held parts keeps scripts (error.Unread unread) are explains = tt
base_unread view dir None parts keeps scripts (error.Refused refusal) are explains = tt
base_unread view dir (Some folder) parts keeps scripts (error.Refused refusal) are explains = base_refused dir folder parts keeps scripts (refused_view refusal) are explains

-- all inputs behind the kept views were read
pub inputs_read : (dir : List ℕ) (held : Option Folder) (parts : JobParts) (keeps : List View) (scripts : List (List Statement)) (base : State) (list : List Change)
    → IfKnown held (λ folder. AreJobScripts folder parts.scripts (Ok scripts)) → IfKnown held (λ folder. job_base dir parts.refreshes folder ≡ Ok (base, list))
    → IfKnown held (λ folder. AreFilesBehind dir folder parts keeps (Ok (record { keeps = keeps; scripts = scripts; base = base; list = list; before = parts.before; senders = parts.senders; journal = parts.journal; kept = [] })))
inputs_read dir None parts keeps scripts base list are read = tt
inputs_read dir (Some folder) parts keeps scripts base list are read = behind_read dir folder parts keeps scripts base list are read
