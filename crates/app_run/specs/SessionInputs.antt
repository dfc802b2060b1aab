-- What the files of a session hold, and which of them is refused first.
use Rattle.std.specs.Prelude.{◌≡◌, ℕ, List}
use Rattle.std.specs.declared.result.Result.{Result}
use Rattle.std.specs.declared.result.Result.TheVariants.{Ok, Err}
use Rattle.sql_ast.specs.declared.statement.Statement.{Statement}
use Rattle.base_io.specs.Outside.{Folder}
use Rattle.app_sessions.specs.Expansion.{ExpandAll}
use Rattle.app_inputs.specs.Inputs.{BadInput, IsScriptOf, and_then, file_bytes, refreshes_in}
use Rattle.app_inputs.specs.Inputs.{script_limit, state_in}
use Rattle.app_jobs.specs.Works.{Work}

-- the statements that a script stands for, where it is read
abbrev pub ExpandsTo : Result (List Statement) BadInput → Result (List Statement) BadInput → Type 0
ExpandsTo (Ok statements) (Ok steps) = ExpandAll statements steps
ExpandsTo (Ok statements) (Err refused) = ⊥
ExpandsTo (Err refused) steps = steps ≡ Err refused

-- the statements that the script of that name in a folder stands for, or why there are none
abbrev pub AreSteps : Folder → List ℕ → Result (List Statement) BadInput → Type 0
AreSteps folder name steps = (read : Result (List Statement) BadInput)
    × IsScriptOf name (file_bytes script_limit folder name) read × ExpandsTo read steps

-- a session's tables and refreshes, once its script is read
abbrev pub work_of : List ℕ → Folder → List Statement → Result Work BadInput
work_of dir folder steps = and_then (state_in dir folder) (λ base.
    and_then (refreshes_in dir steps folder) (λ list. Ok (record {
      steps = steps;
      base = base;
      list = list;
    })))

-- the inputs of a session in their reading order: the script, the tables, the refresh files
abbrev pub AreInputs : List ℕ → List ℕ → Folder → Result Work BadInput → Type 0
AreInputs dir script folder inputs = (steps : Result (List Statement) BadInput)
    × AreSteps folder script steps × (inputs ≡ and_then steps (work_of dir folder))
