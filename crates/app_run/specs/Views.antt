-- What the text of a command stands for.
use Rattle.std.specs.Prelude.{◌≡◌, ℕ, ⊤, Option, Some}
use Rattle.std.specs.Global.{Vec}
use Rattle.std.specs.declared.result.Result.{Result}
use Rattle.std.specs.declared.result.Result.TheVariants.{Ok, Err}
use Rattle.base_io.specs.Outside.{Folder}
use Rattle.app_inputs.specs.Printing.{IsAnswer, IsDone}
use Rattle.app_inputs.specs.Views.{IfKnown, refused_view}
use Rattle.app_inputs.specs.Words.{Command}
use Rattle.app_inputs.specs.declared.input_error.InputError.{InputError}
use Rattle.app_inputs.specs.declared.input_error.InputError.TheVariants as error
use Rattle.app_inputs.specs.declared.status.Status.{Status}
use Rattle.app_run.specs.JobMeaning.{DiskTold}
use Rattle.app_run.specs.Meaning.{IsFirstRefused, Prints}
use Rattle.app_run.specs.declared.output.Output.{Output}
use Rattle.app_run.specs.declared.output.Output.TheVariants as output

-- the text and its status are the command's, or the error explains why it has none: its first
-- refused input
abbrev pub IsTextOf : Command → Option Folder → DiskTold → Result (Vec ℕ × Status) InputError → Type 0
IsTextOf command held disk (Ok printed) = Prints (Some command) held disk printed.0.items printed.1
    × IsDone printed.1
IsTextOf command held disk (Err (error.Unread unread)) = ⊤
IsTextOf command held disk (Err (error.Refused refusal)) =
    IfKnown held (λ folder.
    IsFirstRefused command folder disk.named (Some (refused_view refusal)))

-- the same of what a command gives: a fault of the disk says nothing
abbrev pub IsOutputOf : Command → Option Folder → DiskTold → Result Output InputError → Type 0
IsOutputOf command held disk (Ok (output.Text text s)) =
    Prints (Some command) held disk text.items s × IsDone s
IsOutputOf command held disk (Ok output.DiskFault) = ⊤
IsOutputOf command held disk (Err (error.Unread unread)) = ⊤
IsOutputOf command held disk (Err (error.Refused refusal)) =
    IfKnown held (λ folder.
    IsFirstRefused command folder disk.named (Some (refused_view refusal)))

-- an output is the text and the status, or the error
abbrev pub IsSameOutput : Result (Vec ℕ × Status) InputError → Result Output InputError → Type 0
IsSameOutput (Ok printed) result = result ≡ Ok (output.Text printed.0 printed.1)
IsSameOutput (Err error) result = result ≡ Err error

-- what a command gives to be printed is an answer that it may print
abbrev pub MayGive : Command → Option Folder → DiskTold → Output → Type 0
MayGive command held disk (output.Text text s) =
    IsAnswer s × Prints (Some command) held disk text.items s
MayGive command held disk output.DiskFault = ⊤

-- it is nothing, since the disk failed
abbrev pub IsDiskFault : Output → Type 0
IsDiskFault (output.Text text s) = ⊥
IsDiskFault output.DiskFault = ⊤
