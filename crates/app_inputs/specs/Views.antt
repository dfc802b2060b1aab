-- What the code's values stand for.
use Rattle.std.specs.Prelude.{◌≡◌, ℕ, List, ⊤, Option, None, Some, MatchResult}
use Rattle.std.specs.declared.result.Result.{Result}
use Rattle.std.specs.declared.result.Result.TheVariants.{Ok, Err}
use Rattle.std.specs.String.{string_bytes}
use Rattle.std.specs.Global.{Vec}
use Rattle.base_io.specs.Outside.{Folder}
use Rattle.app_inputs.specs.Inputs.{BadInput}
use Rattle.app_inputs.specs.Words.{Command}
use Rattle.app_inputs.specs.Words.Command.{check, explain, session, throughput, trial}
use Rattle.app_inputs.specs.declared.input_error.InputFault.{InputFault}
use Rattle.app_inputs.specs.declared.input_error.InputFault.TheVariants as fault
use Rattle.app_inputs.specs.declared.input_error.InputError.{InputError}
use Rattle.app_inputs.specs.declared.input_error.InputError.TheVariants as error
use Rattle.app_inputs.specs.declared.input_error.ReadError.TheVariants as read
use Rattle.app_inputs.specs.declared.input_error.RefusedInput.{RefusedInput}
use Rattle.app_inputs.specs.declared.words.Command as code
use Rattle.app_inputs.specs.declared.words.Command.TheVariants as word

-- the command that the words were read as
abbrev pub command_view : code.Command → Command
command_view (word.Session folder script) = session folder.now script.now
command_view (word.Throughput folder job) = throughput folder.now job.now
command_view (word.Explain script) = explain script.now
command_view (word.Check folder) = check folder.now
command_view (word.Trial number) = trial number

-- the refused input with its name as bytes
abbrev pub refused_view : RefusedInput → BadInput
refused_view refusal = record { name = string_bytes refusal.name; fault = refusal.fault }

-- the error is that refusal, or memory ran out for it
abbrev pub Refuses : List ℕ → InputFault → InputError → Type 0
Refuses name why (error.Unread read.Fault) = ⊥
Refuses name why (error.Unread read.OutOfMemory) = ⊤
Refuses name why (error.Refused refusal) =
    refused_view refusal ≡ record { name = name; fault = why }

-- the error is that a file is absent
abbrev pub IsAbsence : InputError → Type 0
IsAbsence (error.Unread unread) = ⊥
IsAbsence (error.Refused refusal) = refusal.fault ≡ fault.Absent

-- a fact of the files, where their contents are known
abbrev pub IfKnown : Option Folder → (Folder → Type 0) → Type 0
IfKnown None P = ⊤
IfKnown (Some folder) P = P folder

-- a refusal is the one of the input that the known files hold; an input that could not be read says
-- nothing of it
abbrev pub Explains : {A : Type 0} → Option Folder → (Folder → Result A BadInput) → InputError
    → Type 0
Explains held input (error.Unread unread) = ⊤
Explains held input (error.Refused refusal) =
    IfKnown held (λ folder. input folder ≡ Err (refused_view refusal))

-- what was read is the input that the known files hold, or the error explains why there is none
abbrev pub Reads : {A B : Type 0} → (A → B) → Option Folder → (Folder → Result B BadInput)
    → Result A InputError → Type 0
Reads view held input result =
    MatchResult result (λ read. IfKnown held (λ folder. input folder ≡ Ok (view read)))
    (Explains held input)

-- the text is one that the input of the known files means, or the error explains why there is no
-- input
abbrev pub Answers : {A : Type 0} → (A → List ℕ → Type 0) → Option Folder
    → (Folder → Result A BadInput) → Result (Vec ℕ) InputError → Type 0
Answers {A} Means held input result =
    MatchResult result
    (λ text. IfKnown held (λ folder. (read : A) × (input folder ≡ Ok read) × Means read text.items))
    (Explains held input)

-- what was read is what the known files may hold, or the error is one of these
abbrev pub Finds : {A B : Type 0} → (A → B) → Option Folder → (Folder → Result B BadInput → Type 0)
    → Result A InputError → Type 0
Finds view held Holds (Ok read) = IfKnown held (λ folder. Holds folder (Ok (view read)))
Finds view held Holds (Err (error.Unread unread)) = ⊤
Finds view held Holds (Err (error.Refused refusal)) =
    IfKnown held (λ folder. Holds folder (Err (refused_view refusal)))
