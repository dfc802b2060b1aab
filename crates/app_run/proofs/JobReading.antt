-- What is read of a job's script.
use Rattle.std.proofs.Common.{◌≡◌, ◌∙◌, ℕ, List, Bool, true, false, Option, None, Some, ap, refl, subst, sym}
use Rattle.std.specs.List.{list_any}
use Rattle.std.specs.declared.result.Result.{Result}
use Rattle.std.specs.declared.result.Result.TheVariants.{Ok, Err}
use Rattle.app_sessions.specs.Expansion.{ExpandAll}
use Rattle.app_sessions.specs.declared.session.Session.{Session}
use Rattle.sql_ast.specs.declared.statement.Statement.{Statement}
use Rattle.sql_parser.specs.Script.{IsReadScript, IsRefusedScript}
use Rattle.sql_parser.specs.declared.fault.ScriptRefusal.{ScriptRefusal}
use Rattle.base_io.specs.Outside.{Folder}
use Rattle.app_run.specs.SessionInputs.{AreSteps}
use Rattle.app_inputs.specs.Inputs.{BadInput, file_bytes, script_limit}
use Rattle.app_run.specs.JobInputs.{HasNoRefresh, IsJobScript, IsPlain, is_refresh}
use Rattle.app_run.specs.JobViews.{IsSessionOf, IsSessionOfBytes, IsStepsOf}
use Rattle.app_jobs.specs.Sources.{steps_of}
use Rattle.app_inputs.specs.Views.{Explains, Finds, IfKnown, Refuses, refused_view}
use Rattle.app_inputs.specs.declared.input_error.InputError.{InputError}
use Rattle.app_inputs.specs.declared.input_error.InputError.TheVariants as error
use Rattle.app_inputs.specs.declared.input_error.InputFault.TheVariants as fault
use Rattle.app_inputs.specs.declared.input_error.ReadError.TheVariants as read

-- a session of the statements of a script is one of its bytes
pub session_of_script : (name bytes : List ℕ) (statements : List Statement) (result : Result Session InputError) → IsReadScript bytes statements → IsSessionOf name bytes statements result
    → IsSessionOfBytes name bytes result
session_of_script name bytes statements (Ok session) script (stands, none) =
    (Ok session.steps, (Ok statements, script, stands), subst (λ b. HasNoRefresh name bytes b session.steps (Ok session.steps)) (sym none) refl)
session_of_script name bytes statements (Err (error.Unread unread)) script is = tt
session_of_script name bytes statements (Err (error.Refused refusal)) script (steps, stands, at) = (Ok steps, (Ok statements, script, stands), at)

-- bytes that are no script are refused so
pub bytes_refused : (name bytes : List ℕ) (r : ScriptRefusal) (place : ℕ) (made : InputError) → IsRefusedScript r bytes place → Refuses name (fault.Byte r place) made
    → IsSessionOfBytes name bytes (Err made)
bytes_refused name bytes r place (error.Unread unread) refuses is = tt
bytes_refused name bytes r place (error.Refused refusal) refuses is =
    (Err (refused_view refusal), (Err (refused_view refusal), (r, place, refuses, is), refl), refl)

-- a refresh among the statements is refused so
pub refresh_refused : (name bytes : List ℕ) (statements steps : List Statement) (place : ℕ) (made : InputError) → HasNoRefresh name bytes true steps (Err (record { name = name; fault = fault.RefreshHere place }))
    → list_any is_refresh steps ≡ true → ExpandAll statements steps → Refuses name (fault.RefreshHere place) made → IsSessionOf name bytes statements (Err made)
refresh_refused name bytes statements steps place (error.Unread unread) at any stands is = tt
refresh_refused name bytes statements steps place (error.Refused refusal) at any stands is = (
  steps,
  stands,
  subst (λ b. HasNoRefresh name bytes b steps (Err (refused_view refusal))) (sym any)
      (subst (λ (r : BadInput). HasNoRefresh name bytes true steps (Err r)) (sym is) at),
)

-- a session of the bytes of a file is one of the script of its name
pub script_found : (name : List ℕ) (held : Option Folder) (bytes : List ℕ) (result : Result Session InputError) → IfKnown held (λ folder. file_bytes script_limit folder name ≡ Ok bytes)
    → IsSessionOfBytes name bytes result → Finds steps_of held (λ folder. IsJobScript folder name) result
script_found name None bytes (Ok session) told is = tt
script_found name None bytes (Err (error.Unread unread)) told is = tt
script_found name None bytes (Err (error.Refused refusal)) told is = tt
script_found name (Some folder) bytes (Ok session) told (steps, (statements, script, stands), plain) =
    (steps, (statements, rw told script, stands), rw told plain)
script_found name (Some folder) bytes (Err (error.Unread unread)) told is = tt
script_found name (Some folder) bytes (Err (error.Refused refusal)) told (steps, (statements, script, stands), plain) =
    (steps, (statements, rw told script, stands), rw told plain)

-- a file that is not read is no script
pub script_unread : (name : List ℕ) (held : Option Folder) (made : InputError) → Explains held (λ folder. file_bytes script_limit folder name) made
    → Finds steps_of held (λ folder. IsJobScript folder name) (Err made)
script_unread name held (error.Unread unread) explains = tt
script_unread name None (error.Refused refusal) explains = tt
script_unread name (Some folder) (error.Refused refusal) explains =
    (Err (refused_view refusal), (Err (refused_view refusal), rw explains refl, refl), rw explains refl)
