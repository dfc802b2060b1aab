-- What a session prints, from what was read of its inputs one after another.
use Rattle.std.proofs.Common.{◌≡◌, ℕ, List, Option, None, Some, refl, subst, sym}
use Rattle.std.specs.declared.result.Result.TheVariants.{Ok, Err}
use Rattle.app_sessions.specs.Expansion.{ExpandAll}
use Rattle.sql_ast.specs.declared.statement.Statement.{Statement}
use Rattle.base_io.specs.Outside.{Folder}
use Rattle.app_run.specs.SessionInputs.{AreSteps, work_of}
use Rattle.app_jobs.specs.Works.{Work}
use Rattle.app_inputs.specs.Inputs.{IsScriptOf, file_bytes, script_limit}
use Rattle.app_run.specs.JobMeaning.{DiskTold}
use Rattle.app_run.specs.Meaning.{MeansSession, Prints}
use Rattle.app_run.specs.ScriptPlans.{MeansExplained}
use Rattle.app_inputs.specs.Views.{Explains, Finds, IfKnown, refused_view}
use Rattle.app_run.specs.Views.{IsTextOf}
use Rattle.app_inputs.specs.Words.Command.{explain, session}
use Rattle.app_inputs.specs.declared.input_error.InputError.{InputError}
use Rattle.app_inputs.specs.declared.input_error.InputError.TheVariants as error
use Rattle.app_inputs.specs.declared.status.Status.{Status}
use Rattle.app_run.proofs.Complete.{explained_done, session_done}
use Rattle.app_run.proofs.Texts.{explained_may_end, session_may_end}

-- the script of a folder stands for these statements
abbrev pub HasSteps : List ℕ → List Statement → Folder → Type 0
HasSteps script steps folder = AreSteps folder script (Ok steps)

-- a script's statements that were read, and what they stand for
pub steps_found : (script : List ℕ) (held : Option Folder) (statements steps : List Statement) → IfKnown held (λ folder. IsScriptOf script (file_bytes script_limit folder script) (Ok statements))
    → ExpandAll statements steps → IfKnown held (HasSteps script steps)
steps_found script None statements steps found expanded = tt
steps_found script (Some folder) statements steps found expanded = (Ok statements, found, expanded)

-- a script that is refused stands for nothing
pub steps_refused : {A : Type 0} → (view : A → List Statement) (script : List ℕ) (held : Option Folder) (made : InputError) → Finds (λ (s : List Statement). s) held (λ folder. IsScriptOf script (file_bytes script_limit folder script)) (Err made)
    → Finds view held (λ folder. AreSteps folder script) (Err made)
steps_refused view script held (error.Unread unread) found = tt
steps_refused view script None (error.Refused refusal) found = tt
steps_refused view script (Some folder) (error.Refused refusal) found = (Err (refused_view refusal), found, refl)

-- a refused script
pub script_refused : {A : Type 0} → (view : A → List Statement) (dir script : List ℕ) (held : Option Folder) (made : InputError) → Finds view held (λ folder. AreSteps folder script) (Err made)
    → (disk : DiskTold) → IsTextOf (session dir script) held disk (Err made)
script_refused view dir script held (error.Unread unread) found disk = tt
script_refused view dir script None (error.Refused refusal) found disk = tt
script_refused view dir script (Some folder) (error.Refused refusal) found disk = (Err (refused_view refusal), (Err (refused_view refusal), found, refl), refl)

-- a refused script that is explained
pub explained_refused : (script : List ℕ) (held : Option Folder) (made : InputError) → Finds (λ (s : List Statement). s) held (λ folder. IsScriptOf script (file_bytes script_limit folder script)) (Err made)
    → (disk : DiskTold) → IsTextOf (explain script) held disk (Err made)
explained_refused script held (error.Unread unread) found disk = tt
explained_refused script None (error.Refused refusal) found disk = tt
explained_refused script (Some folder) (error.Refused refusal) found disk = (Err (refused_view refusal), (Err (refused_view refusal), found, refl), refl)

-- a script that was read and explained
pub explained_printed : (script : List ℕ) (held : Option Folder) (statements steps : List Statement) (text : List ℕ) (s : Status) → IfKnown held (λ folder. IsScriptOf script (file_bytes script_limit folder script) (Ok statements))
    → ExpandAll statements steps → MeansExplained steps text s → (disk : DiskTold) → Prints (Some (explain script)) held disk text s
explained_printed script None statements steps text s found expanded means disk = explained_may_end script None disk text s (explained_done steps text s means) tt
explained_printed script (Some folder) statements steps text s found expanded means disk = (Ok steps, (Ok statements, found, expanded), means)

-- a refused table or refresh file
pub work_refused : (dir script : List ℕ) (held later : Option Folder) (steps : List Statement) (made : InputError) → later ≡ held
    → IfKnown held (HasSteps script steps) → Explains later (λ folder. work_of dir folder steps) made → (disk : DiskTold) → IsTextOf (session dir script) held disk (Err made)
work_refused dir script held later steps (error.Unread unread) same has explains disk = tt
work_refused dir script None later steps (error.Refused refusal) same has explains disk = tt
work_refused dir script (Some folder) later steps (error.Refused refusal) same has explains disk =
    let is : work_of dir folder steps ≡ Err (refused_view refusal) = subst (λ (k : Option Folder). IfKnown k (λ f. work_of dir f steps ≡ Err (refused_view refusal))) same explains in
    (Err (refused_view refusal), (Ok steps, has, sym is), refl)

-- the same, where the statements are named twice
pub same_work_refused : (dir script : List ℕ) (held later : Option Folder) (steps other : List Statement) (made : InputError) → later ≡ held → other ≡ steps
    → IfKnown held (HasSteps script steps) → Explains later (λ folder. work_of dir folder other) made → (disk : DiskTold) → IsTextOf (session dir script) held disk (Err made)
same_work_refused dir script held later steps other made same is has explains disk =
    work_refused dir script held later steps made same has (subst (λ (ss : List Statement). Explains later (λ folder. work_of dir folder ss) made) is explains) disk

-- all inputs were read
pub session_printed : (dir script : List ℕ) (held later : Option Folder) (steps : List Statement) (work : Work) (text : List ℕ) (s : Status) → later ≡ held
    → IfKnown held (HasSteps script steps) → IfKnown later (λ folder. work_of dir folder steps ≡ Ok work) → MeansSession work text s → (disk : DiskTold) → Prints (Some (session dir script)) held disk text s
session_printed dir script None later steps work text s same has read means disk = session_may_end dir script None disk text s (session_done work text s means) tt
session_printed dir script (Some folder) later steps work text s same has read means disk =
    let is : work_of dir folder steps ≡ Ok work = subst (λ (k : Option Folder). IfKnown k (λ f. work_of dir f steps ≡ Ok work)) same read in
    (Ok work, (Ok steps, has, sym is), means)
