-- What the code's values of a job stand for.
use Rattle.std.specs.Prelude.{◌≡◌, ◌≢◌, ⊤, ℕ, ◌<◌, ◌++◌, ◌∷◌, [], Bool, false, List, length}
use Rattle.std.specs.Prelude.{slice_index_or}
use Rattle.std.specs.Prelude.{Option, Some}
use Rattle.std.specs.Global.{Vec}
use Rattle.std.specs.List.{list_any}
use Rattle.std.specs.declared.result.Result.{Result}
use Rattle.std.specs.declared.result.Result.TheVariants.{Ok, Err}
use Rattle.app_sessions.specs.Expansion.{ExpandAll}
use Rattle.app_sessions.specs.declared.session.Session.{Session}
use Rattle.sql_ast.specs.declared.statement.Statement.{Statement}
use Rattle.sql_binder_steps.specs.declared.view.View.{View}
use Rattle.store_state.specs.Refresh.{Change}
use Rattle.base_io.specs.Outside.{Folder}
use Rattle.base_schema.specs.State.{State}
use Rattle.app_inputs.specs.Inputs.{BadInput, IsRead}
use Rattle.app_run.specs.SessionInputs.{ExpandsTo}
use Rattle.app_run.specs.JobInputs.{HasNoRefresh, IsPlain, is_refresh}
use Rattle.app_run.specs.JobKeeps.{IsKeep}
use Rattle.app_job_file.specs.Files.{KeepParts}
use Rattle.app_jobs.specs.Works.{JobWork, kept_under}
use Rattle.app_jobs.specs.Journals.{IsKept, Named}
use Rattle.app_run.specs.JobMeaning.{DiskTold, IsFirstOfJob, MeansJob, PrintsJob}
use Rattle.app_run.specs.declared.output.Output.{Output}
use Rattle.app_run.specs.declared.output.Output.TheVariants as output
use Rattle.app_inputs.specs.Printing.{IsDone}
use Rattle.app_inputs.specs.Views.{IfKnown, refused_view}
use Rattle.app_inputs.specs.declared.input_error.InputError.{InputError}
use Rattle.app_inputs.specs.declared.input_error.InputError.TheVariants as error
use Rattle.app_inputs.specs.declared.input_error.InputFault.TheVariants as fault
use Rattle.app_inputs.specs.declared.input_error.ReadError.TheVariants as read
use Rattle.app_inputs.specs.declared.status.Status.{Status}
use Rattle.app_jobs.specs.Sources.{IsKeepable, IsRunnable}
use Rattle.app_jobs.specs.declared.sources.JobSources.{JobSources}

-- each session prints rows, or none does, and each begins with these views
abbrev pub BeginWith : Bool → List View → List Session → Type 0
BeginWith shows_rows first sessions =
    (i : ℕ) (d : Session) → i < length sessions
    → ((slice_index_or sessions i d).shows_rows ≡ shows_rows)
    × ((slice_index_or sessions i d).first_views ≡ first)

-- a session of the statements of a script, or its refusal, where a refresh is among those that they
-- stand for
abbrev pub IsSessionOf : List ℕ → List ℕ → List Statement → Result Session InputError → Type 0
IsSessionOf name bytes statements (Ok session) = ExpandAll statements session.steps
    × (list_any is_refresh session.steps ≡ false)
IsSessionOf name bytes statements (Err (error.Unread unread)) = ⊤
IsSessionOf name bytes statements (Err (error.Refused refusal)) =
    (steps : List Statement) × ExpandAll statements steps
    × HasNoRefresh name bytes (list_any is_refresh steps) steps (Err (refused_view refusal))

-- an error of bytes that were read: memory ran out, or a refusal for another fault than absence
abbrev pub IsOfBytes : InputError → Type 0
IsOfBytes (error.Unread read.Fault) = ⊥
IsOfBytes (error.Unread read.OutOfMemory) = ⊤
IsOfBytes (error.Refused refusal) = refusal.fault ≢ fault.Absent

-- the statements that the bytes of a script stand for, or why there are none
abbrev pub IsStepsOf : List ℕ → List ℕ → Result (List Statement) BadInput → Type 0
IsStepsOf name bytes steps =
    (read : Result (List Statement) BadInput) × IsRead name bytes read × ExpandsTo read steps

-- a session of the bytes of a script, or their refusal
abbrev pub IsSessionOfBytes : List ℕ → List ℕ → Result Session InputError → Type 0
IsSessionOfBytes name bytes (Ok session) =
    (steps : Result (List Statement) BadInput) × IsStepsOf name bytes steps
    × IsPlain name (Ok bytes) steps (Ok session.steps)
IsSessionOfBytes name bytes (Err (error.Unread unread)) = ⊤
IsSessionOfBytes name bytes (Err (error.Refused refusal)) =
    (steps : Result (List Statement) BadInput) × IsStepsOf name bytes steps
    × IsPlain name (Ok bytes) steps (Err (refused_view refusal))

-- the kept view of a line of a job comes behind those before it, under the next number, or the error
-- explains why there is none
abbrev pub AddsKeep : Option Folder → List ℕ → KeepParts → List View → List View
    → Result (Unit {0}) InputError → Type 0
AddsKeep held job keep old new (Ok done) = (v : View) × (new ≡ old ++ v ∷ [])
    × IfKnown held (λ folder. IsKeep job folder (length old) keep (Ok v))
AddsKeep held job keep old new (Err (error.Unread unread)) = ⊤
AddsKeep held job keep old new (Err (error.Refused refusal)) =
    IfKnown held (λ folder. IsKeep job folder (length old) keep (Err (refused_view refusal)))

-- tables and refreshes
abbrev pub base_view : State × Vec Change → State × List Change
base_view read = (read.0, read.1.items)

-- a job that can be run and kept, each of whose sessions begins with its kept views, and prints rows,
-- or none does
pub record IsPlayable (shows_rows : Bool) (sources : JobSources) : Type 0 where
  pub runnable : IsRunnable sources
  pub keepable : IsKeepable sources
  pub begins : BeginWith shows_rows sources.keeps.views sources.sessions.items

-- the text and its status are the job's, or the error explains why it has none; a fault of the disk
-- says nothing
abbrev pub IsOutputOfJob : Bool → List ℕ → List ℕ → Option Folder → DiskTold
    → Result Output InputError → Type 0
IsOutputOfJob shows_rows dir job held disk (Ok (output.Text text s)) =
    IfKnown held (λ folder. PrintsJob shows_rows dir job folder disk text.items s) × IsDone s
IsOutputOfJob shows_rows dir job held disk (Ok output.DiskFault) = ⊤
IsOutputOfJob shows_rows dir job held disk (Err (error.Unread unread)) = ⊤
IsOutputOfJob shows_rows dir job held disk (Err (error.Refused refusal)) =
    IfKnown held (λ folder. IsFirstOfJob dir job folder disk.named (Some (refused_view refusal)))

-- what a job gives of which its files are read, over a disk: its text, over what its journal of
-- that name keeps, or why that is refused
abbrev pub IsOutputOver : Bool → List ℕ → Named → Option (List ℕ) → JobWork
    → Result Output InputError → Type 0
IsOutputOver shows_rows name named journal_then work (Ok (output.Text text s)) =
    (kept : List Change) × IsKept (Some name) work.base named (Ok kept)
    × MeansJob shows_rows journal_then (kept_under work name kept) text.items s
IsOutputOver shows_rows name named journal_then work (Ok output.DiskFault) = ⊤
IsOutputOver shows_rows name named journal_then work (Err (error.Unread unread)) = ⊤
IsOutputOver shows_rows name named journal_then work (Err (error.Refused refusal)) =
    IsKept (Some name) work.base named (Err (refused_view refusal))
