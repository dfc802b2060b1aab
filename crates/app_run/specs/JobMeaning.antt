-- What a job prints.
use Rattle.std.specs.Prelude.{◌≡◌, Bool, ℕ, List, map, Option, None, Some}
use Rattle.std.specs.Prelude.{if◌then◌else◌}
use Rattle.std.specs.Result.{result_err}
use Rattle.std.specs.declared.result.Result.{Result}
use Rattle.std.specs.declared.result.Result.TheVariants.{Ok}
use Rattle.app_sessions.specs.Jobs.{JobAnswer, JobSession}
use Rattle.sql_ast.specs.declared.statement.Statement.{Statement}
use Rattle.sql_binder_steps.specs.declared.view.View.{View}
use Rattle.base_io.specs.Outside.{Folder, file_of}
use Rattle.app_inputs.specs.Inputs.{BadInput}
use Rattle.app_inputs.specs.JobFile.{job_in}
use Rattle.app_job_file.specs.Files.{JobParts}
use Rattle.app_run.specs.JobInputs.{AreJobFiles, AreJobInputs}
use Rattle.app_jobs.specs.Works.{JobWork}
use Rattle.app_jobs.specs.JobTexts.{IsTextInOrder}
use Rattle.app_jobs.specs.Journals.{IsToldFor, Named}
use Rattle.app_inputs.specs.Printing.{PrintsOf}
use Rattle.app_inputs.specs.declared.status.Status.{Status}
use Rattle.app_inputs.specs.declared.status.Status.TheVariants.{Done, SomeRefused}

-- a session of a job with rows or without, which begins with these views
abbrev pub session_with : Bool → List View → List Statement → JobSession
session_with shows_rows first steps =
    record { steps = steps; first_views = first; shows_rows = shows_rows }

-- What is told of a disk: what a read of each name gave before the run, and what a read of the file
-- reached gives after it.
pub record DiskTold : Type 0 where
  pub named : Named
  pub reads : Option (List ℕ)

-- the two together
abbrev pub disk_told : Named → Option (List ℕ) → DiskTold
disk_told named reads = record { named = named; reads = reads }

-- the text of a job, each of whose sessions begins with its kept views, and whether a line of it is a
-- refusal
abbrev pub MeansJob : Bool → Option (List ℕ) → JobWork → List ℕ → Status → Type 0
MeansJob shows_rows journal_then work text s = (job : JobAnswer)
    × IsTextInOrder work journal_then (map (session_with shows_rows work.keeps) work.scripts) job
    × (text ≡ job.text) × (s ≡ (if job.is_clean then Done else SomeRefused))

-- what a job of a file prints
abbrev pub PrintsJob : Bool → List ℕ → List ℕ → Folder → DiskTold → List ℕ → Status → Type 0
PrintsJob shows_rows dir job folder disk text s = (inputs : Result JobWork BadInput)
    × AreJobInputs dir job folder disk.named inputs
    × PrintsOf (MeansJob shows_rows disk.reads) inputs text s

-- the first refused input of a job, if there is one
abbrev pub IsFirstOfJob : List ℕ → List ℕ → Folder → Named → Option BadInput → Type 0
IsFirstOfJob dir job folder named first = (inputs : Result JobWork BadInput)
    × AreJobInputs dir job folder named inputs × (first ≡ result_err inputs)

-- where a job's file names a journal, the disk is told
abbrev pub IsDiskTold : List ℕ → Folder → Named → Type 0
IsDiskTold job folder named = (parts : JobParts) → job_in job (file_of folder job) ≡ Ok parts
    → IsToldFor parts.journal named

-- a job's file names no journal
abbrev pub NamesNoJournal : List ℕ → Option Folder → Type 0
NamesNoJournal job None = ⊥
NamesNoJournal job (Some folder) = (parts : JobParts)
    → job_in job (file_of folder job) ≡ Ok parts → parts.journal ≡ None

-- what a job's files give has no journal; nothing is given where one of them is refused
abbrev pub NeedsNoDisk : List ℕ → List ℕ → Option Folder → Type 0
NeedsNoDisk dir job None = ⊥
NeedsNoDisk dir job (Some folder) = (work : JobWork)
    → AreJobFiles dir job folder (Ok work) → work.journal ≡ None
