-- What an error of bytes that were read leaves of the files.
use Rattle.std.proofs.Common.{◌≡◌, ◌≢◌, ◌∙◌, ◌≤◌, ℕ, List, Option, ap}
use Rattle.std.specs.declared.result.Result.{Result}
use Rattle.std.specs.declared.result.Result.TheVariants.{Err}
use Rattle.base_io.specs.Outside.{Folder}
use Rattle.app_inputs.specs.FilesAfter.{FilesAfterInput}
use Rattle.app_inputs.specs.Inputs.{BadInput}
use Rattle.app_run.specs.JobViews.{IsOfBytes}
use Rattle.app_inputs.specs.Views.{Refuses}
use Rattle.app_inputs.specs.declared.input_error.InputError.{InputError}
use Rattle.app_inputs.specs.declared.input_error.InputError.TheVariants as error
use Rattle.app_inputs.specs.declared.input_error.InputFault.{InputFault}
use Rattle.app_inputs.specs.declared.input_error.InputFault.TheVariants as fault
use Rattle.app_inputs.specs.declared.input_error.ReadError.TheVariants as read

-- a refusal for another fault than absence
pub refusal_of_bytes : (name : List ℕ) (why : InputFault) (made : InputError) → why ≢ fault.Absent → Refuses name why made → IsOfBytes made
refusal_of_bytes name why (error.Unread read.Fault) other refuses = refuses
refusal_of_bytes name why (error.Unread read.OutOfMemory) other refuses = tt
refusal_of_bytes name why (error.Refused refusal) other refuses = λ gone. other (cc_of gone)
  where
    cc_of : refusal.fault ≡ fault.Absent → why ≡ fault.Absent
    cc_of gone = let same : refusal.fault ≡ why = ap (λ (b : BadInput). b.fault) refuses in cc

-- such an error is no fault of the files
pub files_after_bytes : {S A : Type 0} (holds : S → Option Folder) (faults_of misses_of : S → ℕ) (made : InputError) (before after : S) → IsOfBytes made
    → holds after ≡ holds before → faults_of before ≤ faults_of after → misses_of before ≤ misses_of after
    → FilesAfterInput {S = S} {A = A} holds faults_of misses_of (Err made) before after
files_after_bytes holds faults_of misses_of (error.Unread read.Fault) before after of held faults misses = absurd of
files_after_bytes holds faults_of misses_of (error.Unread read.OutOfMemory) before after of held faults misses =
    record { held = held; fault = λ e. absurd (cc); absent = λ a. absurd a; faults = faults; misses = misses }
files_after_bytes holds faults_of misses_of (error.Refused refusal) before after of held faults misses =
    record { held = held; fault = λ e. absurd (cc); absent = λ gone. absurd (of gone); faults = faults; misses = misses }
