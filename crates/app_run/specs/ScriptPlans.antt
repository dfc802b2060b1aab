-- What `explain` prints of a script.
use Rattle.std.specs.Prelude.{◌≡◌, ℕ, List, [], Option, if◌then◌else◌}
use Rattle.std.specs.Result.{result_err}
use Rattle.std.specs.declared.result.Result.{Result}
use Rattle.app_sessions.specs.Explained.{AreExplained, are_taken}
use Rattle.sql_ast.specs.declared.statement.Statement.{Statement}
use Rattle.base_io.specs.Outside.{Folder}
use Rattle.app_run.specs.SessionInputs.{AreSteps}
use Rattle.app_inputs.specs.Inputs.{BadInput}
use Rattle.app_inputs.specs.Printing.{PrintsOf}
use Rattle.app_inputs.specs.declared.status.Status.{Status}
use Rattle.app_inputs.specs.declared.status.Status.TheVariants.{Done, SomeRefused}

-- the status of statements that are explained: some statement is refused, or none is
abbrev pub explained_status : List Statement → Status
explained_status steps = if are_taken [] steps then Done else SomeRefused

-- the lines of statements that are explained, and whether a statement is refused
abbrev pub MeansExplained : List Statement → List ℕ → Status → Type 0
MeansExplained steps text s = AreExplained 1 [] steps text × (s ≡ explained_status steps)

-- what is printed of the script of that name: the plans of its statements, or why it is refused
abbrev pub PrintsExplained : List ℕ → Folder → List ℕ → Status → Type 0
PrintsExplained script folder text s = (steps : Result (List Statement) BadInput)
    × AreSteps folder script steps × PrintsOf MeansExplained steps text s

-- why the script of that name is refused, where it is
abbrev pub IsFirstOfExplained : List ℕ → Folder → Option BadInput → Type 0
IsFirstOfExplained script folder first = (steps : Result (List Statement) BadInput)
    × AreSteps folder script steps × (first ≡ result_err steps)
