-- What the definitions say in other words: which inputs are accepted, which is refused first, and
-- that texts are unique.
use Rattle.std.specs.Prelude.{◌≡◌, ℕ, List, [], ◌∷◌, ◌++◌, None, Some, Err, Ok, IsOk, ◌↔◌, ⊤, Option}
use Rattle.std.specs.List.{All}
use Rattle.base_io.specs.Outside.{Folder}
use Rattle.base_schema.specs.State.{State, table_rows}
use Rattle.base_schema.specs.Tables.{all_tables}
use Rattle.base_schema.specs.declared.table.TableName.{TableName}
use Rattle.app_sessions.specs.Jobs.{IsJobText, JobAnswer, JobSession}
use Rattle.app_jobs.specs.Works.{JobWork}
use Rattle.app_run.specs.JobMeaning.{DiskTold}
use Rattle.app_jobs.specs.JobTexts.{IsTextInOrder}
use Rattle.app_run.specs.SessionInputs.{AreInputs, AreSteps}
use Rattle.app_jobs.specs.Works.{Work}
use Rattle.app_inputs.specs.Inputs.{BadInput, refreshes_in, state_in}
use Rattle.app_inputs.specs.Inputs.{table_in}
use Rattle.app_run.specs.Meaning.{IsAccepted, Prints}
use Rattle.app_inputs.specs.Words.{Command}
use Rattle.app_inputs.specs.Words.Command.{check, explain, session, throughput, trial}
use Rattle.app_inputs.specs.declared.status.Status.{Status}

-- one of the tables is refused so, and those before it are there and of their form
pub record IsFirstBadTable (dir : List ℕ) (folder : Folder) (tables : List TableName)
    (refused : BadInput) : Type 0 where
  pub before : List TableName
  pub table : TableName
  pub after : List TableName
  pub among : tables ≡ before ++ table ∷ after
  pub good : All (λ t. IsOk (table_in dir t folder)) before
  pub bad : table_in dir table folder ≡ Err refused

-- the tables of a folder are refused exactly as the first bad one of them is, in the schema's order
abbrev pub TablesOrderLaw : Type 0
TablesOrderLaw = (dir : List ℕ) (folder : Folder) (refused : BadInput)
    → (state_in dir folder ≡ Err refused) ↔ IsFirstBadTable dir folder all_tables refused

-- the tables of a folder are that state exactly where each table has that state's rows
abbrev pub TablesAcceptedLaw : Type 0
TablesAcceptedLaw = (dir : List ℕ) (folder : Folder) (state : State)
    → (state_in dir folder ≡ Ok state)
    ↔ ((table : TableName) → table_in dir table folder ≡ Ok (table_rows state table))

-- a session works on that exactly where its script stands for these statements, its tables are that
-- base, and its refresh files give that list
abbrev pub SessionAcceptedLaw : Type 0
SessionAcceptedLaw = (dir script : List ℕ) (folder : Folder) (work : Work)
    → AreInputs dir script folder (Ok work)
    ↔ (AreSteps folder script (Ok work.steps) × (state_in dir folder ≡ Ok work.base)
    × (refreshes_in dir work.steps folder ≡ Ok work.list))

-- a job without a journal none of whose refreshes is sent has one order of them, that of its lines
abbrev pub UnsentLaw : Type 0
UnsentLaw = (work : JobWork) (journal_then : Option (List ℕ)) (sessions : List JobSession)
    (job : JobAnswer) → work.senders ≡ [] → work.journal ≡ None → work.kept ≡ []
    → IsTextInOrder work journal_then sessions job
    ↔ IsJobText work.base work.list work.before sessions job

-- the command has one text: no plan of a query is any other, and the versions of a job are chosen
-- by the run
abbrev pub HasOneText : Command → Type 0
HasOneText (session dir script) = ⊤
HasOneText (throughput dir job) = ⊥
HasOneText (explain script) = ⊥
HasOneText (check dir) = ⊤
HasOneText (trial number) = ⊥

-- two texts that such an accepted command prints are one text, with one status
abbrev pub TextLaw : Type 0
TextLaw = (command : Command) (folder : Folder) (disk : DiskTold) (text other : List ℕ)
    (s r : Status) → HasOneText command → IsAccepted (Some command) (Some folder) disk.named
    → Prints (Some command) (Some folder) disk text s
    → Prints (Some command) (Some folder) disk other r
    → (text ≡ other) × (s ≡ r)
