-- What a job prints whose files are read, over its journal or without one.
use Rattle.std.proofs.Common.{◌≡◌, ◌∙◌, ◌≤◌, ℕ, Bool, List, [], Option, None, Some, ap, refl, subst, sym}
use Rattle.std.specs.Prelude.{IfErr}
use Rattle.std.specs.declared.result.Result.{Result}
use Rattle.std.specs.declared.result.Result.TheVariants.{Ok, Err}
use Rattle.base_io.specs.Outside.{Folder}
use Rattle.base_schema.specs.State.{State}
use Rattle.store_state.specs.Refresh.{Change}
use Rattle.app_inputs.specs.FilesAfter.{FilesAfterInput}
use Rattle.app_inputs.specs.Inputs.{BadInput}
use Rattle.app_inputs.specs.Printing.{PrintsOf}
use Rattle.app_inputs.specs.Views.{IfKnown, Refuses, refused_view}
use Rattle.app_inputs.specs.declared.input_error.InputError.{InputError}
use Rattle.app_inputs.specs.declared.input_error.InputError.TheVariants as error
use Rattle.app_inputs.specs.declared.input_error.InputFault.{InputFault}
use Rattle.app_inputs.specs.declared.input_error.InputFault.TheVariants as fault
use Rattle.app_inputs.specs.declared.status.Status.{Status}
use Rattle.app_run.specs.JobInputs.{AreJobFiles, AreJobInputs}
use Rattle.app_jobs.specs.Works.{JobWork, kept_under, with_kept}
use Rattle.app_run.specs.JobMeaning.{DiskTold, MeansJob, NeedsNoDisk}
use Rattle.app_run.specs.JobViews.{IsOfBytes, IsOutputOfJob, IsOutputOver}
use Rattle.app_jobs.specs.Journals.{IsKept, Named}
use Rattle.app_run.specs.declared.output.Output.{Output}
use Rattle.app_run.specs.declared.output.Output.TheVariants as output
use Rattle.app_run.proofs.Complete.{job_done}
use Rattle.app_run.proofs.KeptAlike.{kept_not_absent}
use Rattle.app_run.proofs.ScriptFaults.{files_after_bytes, refusal_of_bytes}

-- a journal that is refused
pub refusal_over : (shows : Bool) (name : List ℕ) (named : Named) (reads : Option (List ℕ)) (work : JobWork) (why : InputFault) (made : InputError) → Refuses name why made
    → IsKept (Some name) work.base named (Err (record { name = name; fault = why })) → IsOutputOver shows name named reads work (Err made)
refusal_over shows name named reads work why (error.Unread unread) refuses keeps = tt
refusal_over shows name named reads work why (error.Refused refusal) refuses keeps = subst (λ (r : BadInput). IsKept (Some name) work.base named (Err r)) (sym refuses) keeps

pub refusal_is_read : (name : List ℕ) (named : Named) (work : JobWork) (why : InputFault) (made : InputError) → Refuses name why made
    → IsKept (Some name) work.base named (Err (record { name = name; fault = why })) → IsOfBytes made
refusal_is_read name named work why made refuses keeps =
    refusal_of_bytes name why made (kept_not_absent (Some name) work.base named (record { name = name; fault = why }) keeps) refuses

-- a job's work with what its journal keeps
work_kept : (work other : JobWork) (name : List ℕ) (kept : List Change) → work.journal ≡ Some name → other ≡ record work { journal = None } → kept_under other name kept ≡ with_kept work kept
work_kept work other name kept is same =
    ap (λ (w : JobWork). kept_under w name kept) same ∙ ap (λ (j : Option (List ℕ)). record work { journal = j; kept = kept }) (sym is)

-- what is given over a journal is what the job gives
pub job_over : (shows : Bool) (dir job : List ℕ) (held : Option Folder) (disk : DiskTold) (work other : JobWork) (name : List ℕ) (result : Result Output InputError) → work.journal ≡ Some name
    → other ≡ record work { journal = None } → IfKnown held (λ folder. AreJobFiles dir job folder (Ok work)) → IsOutputOver shows name disk.named disk.reads other result
    → IsOutputOfJob shows dir job held disk result
job_over shows dir job None disk work other name (Ok (output.Text text s)) is same files (kept, keeps, means) =
    (tt, job_done shows disk.reads (kept_under other name kept) text.items s means)
job_over shows dir job (Some folder) disk work other name (Ok (output.Text text s)) is same files (kept, keeps, means) =
    let base = ap (λ (w : JobWork). w.base) same in
    let mine = subst (λ (b : State). IsKept (Some name) b disk.named (Ok kept)) base keeps in
    let its = subst (λ (j : Option (List ℕ)). IsKept j work.base disk.named (Ok kept)) (sym is) mine in (
      (
        Ok (with_kept work kept),
        (Ok work, files, (Ok kept, its, refl)),
        subst (λ (w : JobWork). MeansJob shows disk.reads w text.items s) (work_kept work other name kept is same) means,
      ),
      job_done shows disk.reads (kept_under other name kept) text.items s means,
    )
job_over shows dir job held disk work other name (Ok output.DiskFault) is same files over = tt
job_over shows dir job held disk work other name (Err (error.Unread unread)) is same files over = tt
job_over shows dir job None disk work other name (Err (error.Refused refusal)) is same files over = tt
job_over shows dir job (Some folder) disk work other name (Err (error.Refused refusal)) is same files over =
    let base = ap (λ (w : JobWork). w.base) same in
    let mine = subst (λ (b : State). IsKept (Some name) b disk.named (Err (refused_view refusal))) base over in
    let its = subst (λ (j : Option (List ℕ)). IsKept j work.base disk.named (Err (refused_view refusal))) (sym is) mine in
    (Err (refused_view refusal), (Ok work, files, (Err (refused_view refusal), its, refl)), refl)

-- a job without a journal
pub job_plain : (shows : Bool) (dir job : List ℕ) (held : Option Folder) (disk : DiskTold) (work : JobWork) (text : List ℕ) (s : Status) → work.journal ≡ None → work.kept ≡ []
    → IfKnown held (λ folder. AreJobFiles dir job folder (Ok work)) → MeansJob shows disk.reads work text s → IfKnown held (λ folder. (inputs : Result JobWork BadInput)
    × AreJobInputs dir job folder disk.named inputs × PrintsOf (MeansJob shows disk.reads) inputs text s)
job_plain shows dir job None disk work text s none nothing files means = tt
job_plain shows dir job (Some folder) disk work text s none nothing files means =
    let empty = subst (λ (j : Option (List ℕ)). IsKept j work.base disk.named (Ok [])) (sym none) refl in
    let same : work ≡ with_kept work [] = ap (λ (k : List Change). record work { kept = k }) nothing in
    (Ok (with_kept work []), (Ok work, files, (Ok [], empty, refl)), subst (λ (w : JobWork). MeansJob shows disk.reads w text s) same means)

-- a job that names no journal has none
pub names_none : (dir job : List ℕ) (held : Option Folder) (work : JobWork) (name : List ℕ) → work.journal ≡ Some name → IfKnown held (λ folder. AreJobFiles dir job folder (Ok work))
    → NeedsNoDisk dir job held → ⊥
names_none dir job None work name is files none = none
names_none dir job (Some folder) work name is files none =
    let nothing : None ≡ Some name = sym (none work files) ∙ is in
    cc

-- what is left of the files by what doesn't touch them
pub files_stay : {S A : Type 0} (holds : S → Option Folder) (faults_of misses_of : S → ℕ) (result : Result A InputError) (before after : S) → IfErr result IsOfBytes
    → holds after ≡ holds before → faults_of before ≤ faults_of after → misses_of before ≤ misses_of after
    → FilesAfterInput {S = S} {A = A} holds faults_of misses_of result before after
files_stay holds faults_of misses_of (Ok made) before after of held faults misses =
    record { held = held; fault = λ e. absurd (cc); absent = tt; faults = faults; misses = misses }
files_stay holds faults_of misses_of (Err made) before after of held faults misses = files_after_bytes holds faults_of misses_of made before after of held faults misses
