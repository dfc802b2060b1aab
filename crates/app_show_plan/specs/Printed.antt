-- What is printed for what the words ask, and with which status.
use Rattle.std.specs.Prelude.{◌≡◌, ◌⊎◌, ℕ, List, ◌++◌, Bool, true, false, Option, None, Some, ⊤}
use Rattle.std.specs.Prelude.{codes}
use Rattle.std.specs.Global.{Vec}
use Rattle.std.specs.declared.result.Result.{Result}
use Rattle.std.specs.declared.result.Result.TheVariants.{Ok, Err}
use Rattle.base_io.specs.Outside.{Folder}
use Rattle.sql_ast.specs.declared.statement.Statement.{Statement}
use Rattle.sql_parser.specs.Script.{IsReadScript, IsRefusedScript}
use Rattle.sql_parser.specs.declared.fault.ScriptRefusal.{ScriptRefusal}
use Rattle.app_inputs.specs.Inputs.{BadInput, and_then, file_bytes, refusal_line, script_limit}
use Rattle.app_inputs.specs.Inputs.{state_in}
use Rattle.app_inputs.specs.Printing.{PrintsOf}
use Rattle.app_inputs.specs.Views.{IfKnown, refused_view}
use Rattle.app_inputs.specs.declared.input_error.InputError.{InputError}
use Rattle.app_inputs.specs.declared.input_error.InputError.TheVariants as error
use Rattle.app_inputs.specs.declared.input_error.InputFault.TheVariants as fault
use Rattle.app_inputs.specs.declared.status.Status.{Status}
use Rattle.app_inputs.specs.declared.status.Status.TheVariants as status
use Rattle.app_show_plan.specs.Shown.{ShowsScript}
use Rattle.app_show_plan.specs.declared.script.PlanForm.{PlanForm}
use Rattle.app_show_plan.specs.Asked.{Asked}

-- the line for words of another form
abbrev pub usage_line : List ℕ
usage_line = codes "usage: show_plan [--json] SCRIPT [DIR]\n"

-- the status of a script's text
abbrev pub shown_status : Bool → Status
shown_status true = status.Done
shown_status false = status.SomeRefused

-- the text of statements, and whether one of them is refused; of the tables' rows nothing is said
abbrev pub MeansShown : PlanForm → List Statement → ⊤ → List ℕ → Status → Type 0
MeansShown form statements there text s =
    (clean : Bool) × ShowsScript form statements text clean × (s ≡ shown_status clean)

-- whether the tables are there that are asked for
abbrev pub tables_in : Option (List ℕ) → Folder → Result ⊤ BadInput
tables_in None folder = Ok tt
tables_in (Some dir) folder = and_then (state_in dir folder) (λ state. Ok tt)

-- Bytes that are no script: the line of their refusal with its byte, and then more of the place.
abbrev pub PrintsRefusal : List ℕ → List ℕ → List ℕ → Status → Type 0
PrintsRefusal name bytes text s =
    (r : ScriptRefusal) × (place : ℕ) × (more : List ℕ) × IsRefusedScript r bytes place
    × (text ≡ refusal_line (record { name = name; fault = fault.Byte r place }) ++ more)
    × (s ≡ status.InputRefused)

-- what is printed for the bytes of the script: their refusal, or what becomes of their statements,
-- where the tables are there
abbrev pub MeansBytes : Asked → Folder → List ℕ → List ℕ → Status → Type 0
MeansBytes asked folder bytes text s = PrintsRefusal asked.script bytes text s
    ⊎ ((statements : List Statement) × IsReadScript bytes statements
    × PrintsOf (MeansShown asked.form statements) (tables_in asked.folder folder) text s)

-- what is printed over files with known contents
abbrev pub PrintsFrom : Asked → Folder → List ℕ → Status → Type 0
PrintsFrom asked folder text s =
    PrintsOf (MeansBytes asked folder) (file_bytes script_limit folder asked.script) text s

-- what is printed over files of which nothing is known: some text, with one of its statuses
abbrev pub PrintsUntold : Status → Type 0
PrintsUntold s = (s ≡ status.Done) ⊎ (s ≡ status.SomeRefused) ⊎ (s ≡ status.InputRefused)

-- what is printed for words, if they ask for something, over the files, where their contents are
-- known
abbrev pub Prints : Option Asked → Option Folder → List ℕ → Status → Type 0
Prints None known text s = (text ≡ usage_line) × (s ≡ status.Usage)
Prints (Some asked) None text s = PrintsUntold s
Prints (Some asked) (Some folder) text s = PrintsFrom asked folder text s

-- the text and its status are what is printed, or the line of the refusal is
abbrev pub IsTextOf : Asked → Option Folder → Result (Vec ℕ × Status) InputError → Type 0
IsTextOf asked held (Ok printed) = Prints (Some asked) held printed.0.items printed.1
IsTextOf asked held (Err (error.Unread unread)) = ⊤
IsTextOf asked held (Err (error.Refused refusal)) = IfKnown held (λ folder.
    PrintsFrom asked folder (refusal_line (refused_view refusal)) status.InputRefused)
