-- The text of a command, from what its inputs mean, and what is printed of its first refused input.
use Rattle.std.proofs.Common.{◌≡◌, ◌≢◌, ◌∙◌, ◌⊎◌, ℕ, List, Option, None, Some, Bool, true, false, ap, inl, inr, refl, subst, sym}
use Rattle.std.specs.Global.{Vec}
use Rattle.std.specs.Result.{result_err}
use Rattle.std.specs.declared.result.Result.{Result}
use Rattle.std.specs.declared.result.Result.TheVariants.{Ok, Err}
use Rattle.base_io.specs.Outside.{Folder}
use Rattle.base_schema.specs.State.{State}
use Rattle.app_sessions.specs.Counts.{counts_text}
use Rattle.app_run.specs.SessionInputs.{AreInputs}
use Rattle.app_jobs.specs.Works.{Work}
use Rattle.app_inputs.specs.Inputs.{BadInput, refusal_line, state_in}
use Rattle.app_run.specs.Meaning.{IsAbsentInput, IsFirstRefused, MeansCheck, MeansSession, Prints, PrintsFrom}
use Rattle.app_inputs.specs.Printing.{IsAnswer, IsDone, PrintsOf}
use Rattle.app_run.specs.ScriptPlans.{MeansExplained}
use Rattle.app_inputs.specs.Views.{Explains, IfKnown, IsAbsence, refused_view}
use Rattle.app_run.specs.Views.{IsDiskFault, IsOutputOf, IsSameOutput, IsTextOf, MayGive}
use Rattle.app_run.specs.declared.output.Output.{Output}
use Rattle.app_run.specs.declared.output.Output.TheVariants as output
use Rattle.app_run.specs.JobMeaning.{DiskTold, MeansJob, PrintsJob}
use Rattle.app_run.specs.JobViews.{IsOutputOfJob}
use Rattle.app_inputs.specs.Words.{Command, IsOverFiles}
use Rattle.app_run.proofs.JobAlike.{job_absence}
use Rattle.app_inputs.specs.Words.Command.{check, explain, session, throughput, trial}
use Rattle.app_inputs.specs.declared.input_error.InputFault.TheVariants as fault
use Rattle.app_inputs.specs.declared.input_error.InputError.{InputError}
use Rattle.app_inputs.specs.declared.input_error.InputError.TheVariants as error
use Rattle.app_inputs.specs.declared.input_error.RefusedInput.{RefusedInput}
use Rattle.app_inputs.specs.declared.status.Status.{Status}
use Rattle.app_inputs.specs.declared.status.Status.TheVariants as status
use Rattle.app_run.proofs.OneWork.{AreAlike, inputs_alike, script_steps_alike}

-- the counts of a folder whose tables are there
pub check_printed : (dir : List ℕ) (held : Option Folder) (text : List ℕ) → IfKnown held (λ folder. (state : State) × (state_in dir folder ≡ Ok state) × (text ≡ counts_text state)) → (disk : DiskTold) → Prints (Some (check dir)) held disk text status.Done
check_printed dir None text told disk = inl refl
check_printed dir (Some folder) text (state, is, means) disk = subst (λ (r : Result State BadInput). PrintsOf MeansCheck r text status.Done) (sym is) (means, refl)

-- a refused table of a check
pub check_refused : (dir : List ℕ) (held : Option Folder) (made : InputError) → Explains held (state_in dir) made → (disk : DiskTold) → IsTextOf (check dir) held disk (Err made)
check_refused dir held (error.Unread unread) explains disk = tt
check_refused dir None (error.Refused refusal) explains disk = tt
check_refused dir (Some folder) (error.Refused refusal) explains disk = sym (ap result_err explains)

-- a session's status
pub session_may_end : (dir script : List ℕ) (held : Option Folder) (disk : DiskTold) (text : List ℕ) (s : Status) → IsDone s → IfKnown held (λ folder. PrintsFrom (session dir script) folder disk text s) → Prints (Some (session dir script)) held disk text s
session_may_end dir script None disk text s (inl e) told = inl e
session_may_end dir script None disk text s (inr e) told = inr (inl e)
session_may_end dir script (Some folder) disk text s done told = told

-- the status of statements that are explained
pub explained_may_end : (script : List ℕ) (held : Option Folder) (disk : DiskTold) (text : List ℕ) (s : Status) → IsDone s → IfKnown held (λ folder. PrintsFrom (explain script) folder disk text s) → Prints (Some (explain script)) held disk text s
explained_may_end script None disk text s (inl e) told = inl e
explained_may_end script None disk text s (inr e) told = inr (inl e)
explained_may_end script (Some folder) disk text s done told = told

-- a job's status
pub job_may_end : (dir job : List ℕ) (held : Option Folder) (disk : DiskTold) (text : List ℕ) (s : Status) → IsDone s → IfKnown held (λ folder. PrintsJob true dir job folder disk text s) → Prints (Some (throughput dir job)) held disk text s
job_may_end dir job None disk text s (inl e) told = inl e
job_may_end dir job None disk text s (inr e) told = inr (inl e)
job_may_end dir job (Some folder) disk text s done told = told

-- a text was printed whole with such a status
pub done_answers : (s : Status) → IsDone s → IsAnswer s
done_answers s (inl e) = subst IsAnswer (sym e) tt
done_answers s (inr e) = subst IsAnswer (sym e) tt

-- of inputs whose first refused one that is, its line is printed
line_printed : {A : Type 0} → (Means : A → List ℕ → Status → Type 0) (inputs : Result A BadInput) (first : BadInput) → Some first ≡ result_err inputs → PrintsOf Means inputs (refusal_line first) status.InputRefused
line_printed Means (Ok read) first is = absurd (cc)
line_printed Means (Err refused) first is =
    let same : first ≡ refused = cc in
    (ap refusal_line same, refl)

first_printed : (command : Command) (folder : Folder) (disk : DiskTold) (first : BadInput) → IsFirstRefused command folder disk.named (Some first) → PrintsFrom command folder disk (refusal_line first) status.InputRefused
first_printed (session dir script) folder disk first (inputs, are, is) = (inputs, are, line_printed MeansSession inputs first is)
first_printed (explain script) folder disk first (steps, are, is) = (steps, are, line_printed MeansExplained steps first is)
first_printed (throughput dir job) folder disk first (inputs, are, is) = (inputs, are, line_printed (MeansJob true disk.reads) inputs first is)
first_printed (trial number) folder disk first (none, accepted) = absurd (cc)
first_printed (check dir) folder disk first is = line_printed MeansCheck (state_in dir folder) first is

-- the line of a command's first refused input is printed
pub refusal_printed : (command : Command) (held : Option Folder) (disk : DiskTold) (refusal : RefusedInput) → IsOverFiles command → IsOutputOf command held disk (Err (error.Refused refusal)) → Prints (Some command) held disk (refusal_line (refused_view refusal)) status.InputRefused
refusal_printed (session dir script) None disk refusal over is = inr (inr refl)
refusal_printed (throughput dir job) None disk refusal over is = inr (inr refl)
refusal_printed (explain script) None disk refusal over is = inr (inr refl)
refusal_printed (check dir) None disk refusal over is = inr refl
refusal_printed (trial number) None disk refusal over is = absurd over
refusal_printed command (Some folder) disk refusal over is = first_printed command folder disk (refused_view refusal) is

-- a status is not two
not_refused : (s : Status) → IsDone s → s ≡ status.InputRefused → ⊥
not_refused s (inl e) is = let wrong : status.Done ≡ status.InputRefused = sym e ∙ is in cc
not_refused s (inr e) is = let wrong : status.SomeRefused ≡ status.InputRefused = sym e ∙ is in cc

-- inputs that are answered are there
answered_there : {A : Type 0} → (Means : A → List ℕ → Status → Type 0) (inputs : Result A BadInput) (text : List ℕ) (s : Status) (first : BadInput) → PrintsOf Means inputs text s → IsDone s → inputs ≡ Err first → ⊥
answered_there Means (Ok read) text s first prints done is = cc
answered_there Means (Err refused) text s first prints done is = not_refused s done prints.1

refused_is : {A : Type 0} → (inputs : Result A BadInput) (first : BadInput) → Some first ≡ result_err inputs → inputs ≡ Err first
refused_is (Ok read) first is = absurd (cc)
refused_is (Err refused) first is = let same : refused ≡ first = cc in ap Err same

-- inputs that are answered are none of which one is absent
answered_alike : {A : Type 0} → (Means : A → List ℕ → Status → Type 0) (inputs others : Result A BadInput) (text : List ℕ) (s : Status) (absent : BadInput) → AreAlike inputs others → PrintsOf Means inputs text s → IsDone s → others ≡ Err absent → ⊥
answered_alike Means inputs others text s absent (inl e) prints done gone = answered_there Means inputs text s _ prints done (e ∙ gone)
answered_alike Means inputs others text s absent (inr (first, second, one, two, p, q)) prints done gone = answered_there Means inputs text s first prints done one

-- a command that is answered has no absent input
pub text_without_absence : (command : Command) (held : Option Folder) (disk : DiskTold) (text : List ℕ) (s : Status) → Prints (Some command) held disk text s → IsDone s → IsAbsentInput (Some command) held disk.named → ⊥
text_without_absence command None disk text s prints done absent = absent
text_without_absence (check dir) (Some folder) disk text s prints done (name, is) = answered_there MeansCheck (state_in dir folder) text s _ prints done (refused_is (state_in dir folder) _ is)
text_without_absence (session dir script) (Some folder) disk text s (inputs, are, prints) done (name, (others, are', is)) =
    let gone = refused_is others (record { name = name; fault = fault.Absent }) is in
    answered_alike MeansSession inputs others text s _ (inputs_alike dir script folder inputs others are are') prints done gone
text_without_absence (throughput dir job) (Some folder) disk text s (inputs, are, prints) done (name, (others, are', is)) =
    let gone = refused_is others (record { name = name; fault = fault.Absent }) is in
    answered_there (MeansJob true disk.reads) inputs text s _ prints done (job_absence dir job folder disk.named inputs others (record { name = name; fault = fault.Absent }) refl are are' gone)
text_without_absence (trial number) (Some folder) disk text s prints done (name, (none, accepted)) = cc
text_without_absence (explain script) (Some folder) disk text s (steps, are, prints) done (name, (others, are', is)) =
    let gone = refused_is others (record { name = name; fault = fault.Absent }) is in
    answered_alike MeansExplained steps others text s _ (script_steps_alike script folder steps others are are') prints done gone

-- what a command gives may be given
pub gives : (command : Command) (held : Option Folder) (disk : DiskTold) (given : Output) → IsOutputOf command held disk (Ok given) → MayGive command held disk given
gives command held disk (output.Text text s) (prints, done) = (done_answers s done, prints)
gives command held disk output.DiskFault is = tt

-- a command that gives a text has no absent input
pub output_without_absence : (command : Command) (held : Option Folder) (disk : DiskTold) (given : Output) → IsOutputOf command held disk (Ok given) → (IsDiskFault given → ⊥)
    → IsAbsentInput (Some command) held disk.named → ⊥
output_without_absence command held disk (output.Text text s) (prints, done) whole absent = text_without_absence command held disk text.items s prints done absent
output_without_absence command held disk output.DiskFault is whole absent = whole tt

-- where the first refused input is an absent file, the refusal says so
fault_of_input : (a b : BadInput) → Some a ≡ Some b → a.fault ≡ b.fault
fault_of_input a b e = let same : a ≡ b = cc in ap (λ r. r.fault) same

-- inputs of which an absent file is refused, are refused for that one
absence_alike : {A : Type 0} → (inputs others : Result A BadInput) (refused absent : BadInput) → AreAlike inputs others → absent.fault ≡ fault.Absent → Some refused ≡ result_err inputs → Some absent ≡ result_err others → refused.fault ≡ fault.Absent
absence_alike inputs others refused absent (inl e) gone is is' = fault_of_input refused absent (is ∙ ap result_err e ∙ sym is') ∙ gone
absence_alike inputs others refused absent (inr (first, second, one, two, p, q)) gone is is' = absurd (q (fault_of_input second absent (sym (ap result_err two) ∙ sym is') ∙ gone))

pub refusal_of_absence : (command : Command) (held : Option Folder) (disk : DiskTold) (refusal : RefusedInput) → IsOutputOf command held disk (Err (error.Refused refusal)) → IsAbsentInput (Some command) held disk.named → IsAbsence (error.Refused refusal)
refusal_of_absence command None disk refusal is absent = absurd absent
refusal_of_absence (check dir) (Some folder) disk refusal is (name, absent) = fault_of_input (refused_view refusal) (record { name = name; fault = fault.Absent }) (is ∙ sym absent)
refusal_of_absence (session dir script) (Some folder) disk refusal (inputs, are, is) (name, (others, are', absent)) =
    absence_alike inputs others (refused_view refusal) (record { name = name; fault = fault.Absent }) (inputs_alike dir script folder inputs others are are') refl is absent
refusal_of_absence (throughput dir job) (Some folder) disk refusal (inputs, are, is) (name, (others, are', absent)) =
    let gone = job_absence dir job folder disk.named inputs others (record { name = name; fault = fault.Absent }) refl are are' (refused_is others (record { name = name; fault = fault.Absent }) absent) in
    fault_of_input (refused_view refusal) (record { name = name; fault = fault.Absent }) (is ∙ ap result_err gone)
refusal_of_absence (trial number) (Some folder) disk refusal is (name, (none, accepted)) = absurd (cc)
refusal_of_absence (explain script) (Some folder) disk refusal (steps, are, is) (name, (others, are', absent)) =
    absence_alike steps others (refused_view refusal) (record { name = name; fault = fault.Absent }) (script_steps_alike script folder steps others are are') refl is absent

-- a text and its status, as what the command gives
pub output_same : (command : Command) (held : Option Folder) (disk : DiskTold) (printed : Result (Vec ℕ × Status) InputError) (result : Result Output InputError) → IsTextOf command held disk printed
    → IsSameOutput printed result → IsOutputOf command held disk result
output_same command held disk (Ok printed) result is same = subst (IsOutputOf command held disk) (sym same) is
output_same command held disk (Err (error.Unread unread)) result is same = subst (IsOutputOf command held disk) (sym same) tt
output_same command held disk (Err (error.Refused refusal)) result is same = subst (IsOutputOf command held disk) (sym same) is

-- the text of a job's file, as that of the command
pub job_output_of : (dir job : List ℕ) (held : Option Folder) (disk : DiskTold) (result : Result Output InputError) → IsOutputOfJob true dir job held disk result → IsOutputOf (throughput dir job) held disk result
job_output_of dir job held disk (Ok (output.Text text s)) (prints, done) = (job_may_end dir job held disk text.items s done prints, done)
job_output_of dir job held disk (Ok output.DiskFault) is = tt
job_output_of dir job held disk (Err (error.Unread unread)) is = tt
job_output_of dir job held disk (Err (error.Refused refusal)) is = is
