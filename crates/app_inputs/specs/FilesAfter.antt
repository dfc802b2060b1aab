-- What a call that reads leaves of the files. `holds`, `faults_of` and `misses_of` tell of the
-- files in some state what they hold and how many faults and absences they have counted.
use Rattle.std.specs.Prelude.{◌≡◌, ℕ, ◌≤◌, Option, IfErr, IsErrOf}
use Rattle.std.specs.declared.result.Result.{Result}
use Rattle.base_io.specs.Outside.{Folder, Rose}
use Rattle.app_inputs.specs.Views.{IsAbsence}
use Rattle.app_inputs.specs.declared.input_error.InputError.{InputError}
use Rattle.app_inputs.specs.declared.input_error.InputError.TheVariants as error
use Rattle.app_inputs.specs.declared.input_error.ReadError.{ReadError}
use Rattle.app_inputs.specs.declared.input_error.ReadError.TheVariants as read

-- after a call that reads from the open file: the files hold what they held, no count fell, and a
-- failure was counted
pub record FilesAfterRead {S A : Type 0} (holds : S → Option Folder) (faults_of misses_of : S → ℕ)
    (result : Result A ReadError) (before after : S) : Type 0 where
  pub held : holds after ≡ holds before
  pub fault : IsErrOf result read.Fault → Rose (faults_of before) (faults_of after)
  pub faults : faults_of before ≤ faults_of after
  pub misses : misses_of before ≤ misses_of after

-- after a call that reads inputs: the same, and an absence was counted too
pub record FilesAfterInput {S A : Type 0} (holds : S → Option Folder) (faults_of misses_of : S → ℕ)
    (result : Result A InputError) (before after : S) : Type 0 where
  pub held : holds after ≡ holds before
  pub fault : IsErrOf result (error.Unread read.Fault) → Rose (faults_of before) (faults_of after)
  pub absent : IfErr result (λ e. IsAbsence e → Rose (misses_of before) (misses_of after))
  pub faults : faults_of before ≤ faults_of after
  pub misses : misses_of before ≤ misses_of after
