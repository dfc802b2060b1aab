-- What a command's text says of the run; an accepted command is answered, where nothing but memory stands in its way.
use Rattle.std.proofs.Common.{◌≡◌, ◌≢◌, ◌∙◌, ◌⊎◌, ℕ, List, [], Option, None, Some, Bool, true, false, inl, inr, refl, subst, sym}
use Rattle.std.specs.Prelude.{codes, if◌then◌else◌}
use Rattle.std.specs.Io.KnownBytes.{Appends}
use Rattle.std.specs.Result.{result_err}
use Rattle.std.specs.declared.result.Result.{Result}
use Rattle.std.specs.declared.result.Result.TheVariants.{Ok, Err}
use Rattle.app_sessions.specs.Explained.{are_taken}
use Rattle.app_sessions.specs.Sessions.{are_clean}
use Rattle.sql_ast.specs.declared.statement.Statement.{Statement}
use Rattle.base_io.specs.Outside.{Folder}
use Rattle.app_inputs.specs.Inputs.{BadInput, state_in}
use Rattle.app_jobs.specs.Works.{Work}
use Rattle.app_run.specs.Meaning.{IsAccepted, MeansCheck, MeansSession, Prints}
use Rattle.app_inputs.specs.Printing.{IsAnswer, IsDone, PrintsOf}
use Rattle.app_run.specs.ScriptPlans.{MeansExplained}
use Rattle.app_jobs.specs.Turns.{first_trials, moments, session_status}
use Rattle.app_jobs.specs.Works.{JobWork}
use Rattle.app_run.specs.JobMeaning.{DiskTold, MeansJob}
use Rattle.app_run.specs.Trial.{IsTrialAccepted, PrintsTrial, trial_files}
use Rattle.app_inputs.specs.Words.{Command}
use Rattle.app_run.proofs.JobAlike.{told_inputs_alike, trial_inputs_alike}
use Rattle.app_run.proofs.TrialFiles.{trial_names_none}
use Rattle.app_inputs.specs.Words.Command.{check, explain, session, throughput, trial}
use Rattle.app_inputs.specs.declared.input_error.InputFault.TheVariants as fault
use Rattle.app_inputs.specs.declared.status.Status.{Status}
use Rattle.app_inputs.specs.declared.status.Status.TheVariants as status
use Rattle.app_run.proofs.OneWork.{AreAlike, inputs_alike, script_steps_alike}

no_refusal : (r : BadInput) → None ≡ Some r → ⊥
no_refusal r e = cc

by_cleanness : (clean : Bool) → IsDone (if clean then status.Done else status.SomeRefused)
by_cleanness true = inl refl
by_cleanness false = inr refl

-- what a session's inputs mean has such a status
pub session_done : (work : Work) (text : List ℕ) (s : Status) → MeansSession work text s → IsDone s
session_done work text s means = subst IsDone (sym means.1) (by_cleanness (are_clean [] work.steps (moments (first_trials work) work.steps)))

-- what a script's statements mean that are explained has such a status
pub explained_done : (steps : List Statement) (text : List ℕ) (s : Status) → MeansExplained steps text s → IsDone s
explained_done steps text s means = subst IsDone (sym means.1) (by_cleanness (are_taken [] steps))

-- what a job's inputs mean has such a status
pub job_done : (shows : Bool) (reads : Option (List ℕ)) (work : JobWork) (text : List ℕ) (s : Status) → MeansJob shows reads work text s → IsDone s
job_done shows reads work text s (job, is, same, status_is) = subst IsDone (sym status_is) (by_cleanness job.is_clean)

-- inputs of which none is refused are there
there : {A : Type 0} → (inputs : Result A BadInput) → None ≡ result_err inputs → (a : A) × (inputs ≡ Ok a)
there (Ok a) e = (a, refl)
there (Err refused) e = absurd (no_refusal refused e)

-- inputs that are like accepted ones are answered
accepted_alike : {A : Type 0} → (Means : A → List ℕ → Status → Type 0) → ((a : A) (text : List ℕ) (s : Status) → Means a text s → IsDone s) → (inputs others : Result A BadInput) (text : List ℕ) (s : Status)
    → AreAlike inputs others → None ≡ result_err others → PrintsOf Means inputs text s → IsDone s
accepted_alike {A} Means ends inputs others text s alike none prints =
    let (a, is) = there others none in
    at inputs alike a is prints
  where
    at : (read : Result A BadInput) → AreAlike read others → (a : A) → others ≡ Ok a → PrintsOf Means read text s → IsDone s
    at (Ok read) alike a is means = ends read text s means
    at (Err refused) (inl e) a is means = absurd (cc)
    at (Err refused) (inr (first, second, one, two, p, q)) a is means = absurd (cc)

-- a trial whose files are accepted is answered
trial_done : (number : ℕ) (text : List ℕ) (s : Status) → PrintsTrial number text s → IsTrialAccepted number → IsDone s
trial_done number text s (disk, (inputs, are, prints)) (others, are', none) =
    accepted_alike (MeansJob false disk.reads) (job_done false disk.reads) inputs others text s (trial_inputs_alike (codes "made") (codes "job") (trial_files number) disk.named None inputs others (trial_names_none number) are are') none prints

-- what an accepted command prints, it prints with the status of an answer
pub accepted_done : (command : Command) (held : Option Folder) (disk : DiskTold) (text : List ℕ) (s : Status) → Prints (Some command) held disk text s → IsAccepted (Some command) held disk.named → IsDone s
accepted_done (session dir script) None disk text s prints accepted = absurd accepted
accepted_done (throughput dir job) None disk text s prints accepted = absurd accepted
accepted_done (explain script) None disk text s prints accepted = absurd accepted
accepted_done (check dir) None disk text s prints accepted = absurd accepted
accepted_done (trial number) None disk text s prints accepted = trial_done number text s prints accepted
accepted_done (trial number) (Some folder) disk text s prints ((none, accepted), told) = trial_done number text s prints accepted
accepted_done (check dir) (Some folder) disk text s prints (accepted, told) = at (state_in dir folder) prints accepted
  where
    at : (read : Result _ BadInput) → PrintsOf MeansCheck read text s → None ≡ result_err read → IsDone s
    at (Ok state) means none = inl means.1
    at (Err refused) means none = absurd (no_refusal refused none)
accepted_done (session dir script) (Some folder) disk text s (inputs, are, prints) ((others, are', none), told) =
    accepted_alike MeansSession session_done inputs others text s (inputs_alike dir script folder inputs others are are') none prints
accepted_done (throughput dir job) (Some folder) disk text s (inputs, are, prints) ((others, are', none), told) =
    accepted_alike (MeansJob true disk.reads) (job_done true disk.reads) inputs others text s (told_inputs_alike dir job folder disk.named inputs others told are are') none prints
accepted_done (explain script) (Some folder) disk text s (steps, are, prints) ((others, are', none), told) =
    accepted_alike MeansExplained explained_done steps others text s (script_steps_alike script folder steps others are are') none prints

-- so the run ends with it
pub completed : (s result : Status) → IsDone s → (IsAnswer result → result ≡ s) → result ≢ status.WriteFault → result ≢ status.ReadFault → result ≢ status.DiskFault → result ≢ status.OutOfMemory → (result ≡ status.Done) ⊎ (result ≡ status.SomeRefused)
completed s status.Done done whole no_write no_read no_disk no_memory = inl refl
completed s status.SomeRefused done whole no_write no_read no_disk no_memory = inr refl
completed s status.Usage done whole no_write no_read no_disk no_memory = subst IsDone (sym (whole tt)) done
completed s status.InputRefused done whole no_write no_read no_disk no_memory = subst IsDone (sym (whole tt)) done
completed s status.ReadFault done whole no_write no_read no_disk no_memory = absurd (no_read refl)
completed s status.WriteFault done whole no_write no_read no_disk no_memory = absurd (no_write refl)
completed s status.OutOfMemory done whole no_write no_read no_disk no_memory = absurd (no_memory refl)
completed s status.DiskFault done whole no_write no_read no_disk no_memory = absurd (no_disk refl)

-- the text that was taken whole is the command's
pub answered : (words : Option Command) (command : Command) (held : Option Folder) (disk : DiskTold) (text shown : List ℕ) (s result : Status) (taken later : Option (List ℕ)) → words ≡ Some command → Prints (Some command) held disk text s → shown ≡ text → (IsAnswer result → (result ≡ s) × Appends taken later shown)
    → IsAnswer result → (x : List ℕ) × Prints words held disk x result × Appends taken later x
answered words command held disk text shown s result taken later is prints same whole answer =
    let (status_is, all) = whole answer in
    (text, subst (λ (k : Option Command). Prints k held disk text result) (sym is) (subst (λ (r : Status). Prints (Some command) held disk text r) (sym status_is) prints), subst (Appends taken later) same all)
