-- What a run of the program prints, and with which status.
use Rattle.std.specs.Prelude.{◌≡◌, ◌⊎◌, ℕ, ⊤, List, true, Option, None, Some}
use Rattle.std.specs.Io.KnownBytes.{Appends}
use Rattle.std.specs.Result.{result_err}
use Rattle.std.specs.declared.result.Result.{Result}
use Rattle.std.specs.declared.result.Result.TheVariants.{Ok, Err}
use Rattle.base_io.specs.Outside.{AppendsPart, Folder}
use Rattle.base_schema.specs.State.{State}
use Rattle.app_sessions.specs.Counts.{counts_text}
use Rattle.app_run.specs.SessionInputs.{AreInputs}
use Rattle.app_jobs.specs.Works.{Work}
use Rattle.app_inputs.specs.Inputs.{BadInput, state_in}
use Rattle.app_run.specs.JobMeaning.{DiskTold, IsDiskTold, IsFirstOfJob, NeedsNoDisk, PrintsJob}
use Rattle.app_jobs.specs.Journals.{Named}
use Rattle.app_inputs.specs.Printing.{IsAnswer, PrintsOf}
use Rattle.app_run.specs.ScriptPlans.{IsFirstOfExplained, PrintsExplained}
use Rattle.app_jobs.specs.Turns.{session_status, session_text}
use Rattle.app_run.specs.Trial.{IsTrialAccepted, PrintsTrial}
use Rattle.app_inputs.specs.Words.{Command, usage_line}
use Rattle.app_inputs.specs.Words.Command.{check, explain, session, throughput, trial}
use Rattle.app_inputs.specs.declared.input_error.InputFault.TheVariants as fault
use Rattle.app_inputs.specs.declared.status.Status.{Status}
use Rattle.app_inputs.specs.declared.status.Status.TheVariants as status

-- a session's text, and whether a statement is refused
abbrev pub MeansSession : Work → List ℕ → Status → Type 0
MeansSession work text s = (text ≡ session_text work) × (s ≡ session_status work)

-- the counts of the tables
abbrev pub MeansCheck : State → List ℕ → Status → Type 0
MeansCheck state text s = (text ≡ counts_text state) × (s ≡ status.Done)

-- what a command prints over files with known contents: a session the text of its statements, a
-- job that of its sessions and refreshes, by what is told of the disk, `explain` the plans of
-- statements, a check the counts, a trial the text of its job, whatever the files are
abbrev pub PrintsFrom : Command → Folder → DiskTold → List ℕ → Status → Type 0
PrintsFrom (session dir script) folder disk text s =
    (inputs : Result Work BadInput) × AreInputs dir script folder inputs
    × PrintsOf MeansSession inputs text s
PrintsFrom (throughput dir job) folder disk text s = PrintsJob true dir job folder disk text s
PrintsFrom (explain script) folder disk text s = PrintsExplained script folder text s
PrintsFrom (check dir) folder disk text s = PrintsOf MeansCheck (state_in dir folder) text s
PrintsFrom (trial number) folder disk text s = PrintsTrial number text s

-- what a command prints over files of which nothing is known: some text, with one of the statuses
-- of its texts. A trial names no file.
abbrev pub PrintsUntold : Command → List ℕ → Status → Type 0
PrintsUntold (session dir script) text s = (s ≡ status.Done) ⊎ (s ≡ status.SomeRefused)
    ⊎ (s ≡ status.InputRefused)
PrintsUntold (throughput dir job) text s = (s ≡ status.Done) ⊎ (s ≡ status.SomeRefused)
    ⊎ (s ≡ status.InputRefused)
PrintsUntold (explain script) text s = (s ≡ status.Done) ⊎ (s ≡ status.SomeRefused)
    ⊎ (s ≡ status.InputRefused)
PrintsUntold (check dir) text s = (s ≡ status.Done) ⊎ (s ≡ status.InputRefused)
PrintsUntold (trial number) text s = PrintsTrial number text s

-- what may be printed by the command, if the words are one, over the files, where their contents
-- are known, and by what is told of the disk
abbrev pub Prints : Option Command → Option Folder → DiskTold → List ℕ → Status → Type 0
Prints None known disk text s = (text ≡ usage_line) × (s ≡ status.Usage)
Prints (Some command) None disk text s = PrintsUntold command text s
Prints (Some command) (Some folder) disk text s = PrintsFrom command folder disk text s

-- some text that may be printed, whatever its status
abbrev pub MayPrint : Option Command → Option Folder → DiskTold → List ℕ → Type 0
MayPrint command known disk text = (s : Status) × Prints command known disk text s

-- on an answer the sink took a whole text that may be printed with just that status
abbrev pub TakesWhole : Option Command → Option Folder → DiskTold → Option (List ℕ)
    → Option (List ℕ) → Status → Type 0
TakesWhole command known disk before now s =
    IsAnswer s → ((text : List ℕ) × Prints command known disk text s × Appends before now text)

-- the sink took a part, from its front, of a text that may be printed
abbrev pub TakesPart : Option Command → Option Folder → DiskTold → Option (List ℕ)
    → Option (List ℕ) → Type 0
TakesPart command known disk before now = (text : List ℕ) × MayPrint command known disk text
    × AppendsPart before now text

-- the first refused input, if there is one; no file that is named by a trial is refused, where what
-- it makes is accepted
abbrev pub IsFirstRefused : Command → Folder → Named → Option BadInput → Type 0
IsFirstRefused (session dir script) folder named first =
    (inputs : Result Work BadInput) × AreInputs dir script folder inputs
    × (first ≡ result_err inputs)
IsFirstRefused (throughput dir job) folder named first = IsFirstOfJob dir job folder named first
IsFirstRefused (explain script) folder named first = IsFirstOfExplained script folder first
IsFirstRefused (check dir) folder named first = first ≡ result_err (state_in dir folder)
IsFirstRefused (trial number) folder named first = (first ≡ None) × IsTrialAccepted number

-- the first refused input is an absent file
abbrev pub IsAbsentInput : Option Command → Option Folder → Named → Type 0
IsAbsentInput None known named = ⊥
IsAbsentInput (Some command) None named = ⊥
IsAbsentInput (Some command) (Some folder) named =
    (name : List ℕ)
    × IsFirstRefused command folder named (Some (record { name = name; fault = fault.Absent }))

-- the command names no file, and what it makes is accepted
abbrev pub IsAcceptedUntold : Command → Type 0
IsAcceptedUntold (session dir script) = ⊥
IsAcceptedUntold (throughput dir job) = ⊥
IsAcceptedUntold (explain script) = ⊥
IsAcceptedUntold (check dir) = ⊥
IsAcceptedUntold (trial number) = IsTrialAccepted number

-- where a command has a job that names a journal, the disk is told
abbrev pub TellsJournal : Command → Folder → Named → Type 0
TellsJournal (session dir script) folder named = ⊤
TellsJournal (throughput dir job) folder named = IsDiskTold job folder named
TellsJournal (explain script) folder named = ⊤
TellsJournal (check dir) folder named = ⊤
TellsJournal (trial number) folder named = ⊤

-- the words are a command, and the contents of each file that it names are known, the journal's
-- too, and each is there and of its form
abbrev pub IsAccepted : Option Command → Option Folder → Named → Type 0
IsAccepted None known named = ⊥
IsAccepted (Some command) None named = IsAcceptedUntold command
IsAccepted (Some command) (Some folder) named =
    IsFirstRefused command folder named None × TellsJournal command folder named

-- no command, or one without a job, or a job that names no journal or whose inputs are refused
-- before its journal is read
abbrev pub LeavesDisk : Option Command → Option Folder → Type 0
LeavesDisk None known = ⊤
LeavesDisk (Some (session dir script)) known = ⊤
LeavesDisk (Some (throughput dir job)) known = NeedsNoDisk dir job known
LeavesDisk (Some (explain script)) known = ⊤
LeavesDisk (Some (check dir)) known = ⊤
LeavesDisk (Some (trial number)) known = ⊤
