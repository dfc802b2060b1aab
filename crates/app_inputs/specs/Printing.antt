-- How a text is printed of inputs, and which statuses end a run that printed its text.
use Rattle.std.specs.Prelude.{◌≡◌, ◌⊎◌, ℕ, List, ⊤}
use Rattle.std.specs.declared.result.Result.{Result}
use Rattle.std.specs.declared.result.Result.TheVariants.{Ok, Err}
use Rattle.app_inputs.specs.Inputs.{BadInput, refusal_line}
use Rattle.app_inputs.specs.declared.status.Status.{Status}
use Rattle.app_inputs.specs.declared.status.Status.TheVariants as status

-- the statuses with which a text was printed whole
abbrev pub IsAnswer : Status → Type 0
IsAnswer status.Done = ⊤
IsAnswer status.SomeRefused = ⊤
IsAnswer status.Usage = ⊤
IsAnswer status.InputRefused = ⊤
IsAnswer status.ReadFault = ⊥
IsAnswer status.WriteFault = ⊥
IsAnswer status.OutOfMemory = ⊥
IsAnswer status.DiskFault = ⊥

-- the statuses with which inputs that are there end
abbrev pub IsDone : Status → Type 0
IsDone s = (s ≡ status.Done) ⊎ (s ≡ status.SomeRefused)

-- what is printed of inputs: what they mean, with its status, or the line of the first refused one
abbrev pub PrintsOf : {A : Type 0} → (A → List ℕ → Status → Type 0) → Result A BadInput → List ℕ
    → Status → Type 0
PrintsOf Means (Ok inputs) text s = Means inputs text s
PrintsOf Means (Err refused) text s = (text ≡ refusal_line refused) × (s ≡ status.InputRefused)
