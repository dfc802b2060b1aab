-- What the journal of a job keeps before the run and after it, and why it is refused.
use Rattle.std.specs.Prelude.{◌≡◌, ◌⊎◌, ◌<◌, ◌≤◌, ◌+◌, ◌^◌, ℕ, ⊤, List, [], ◌∷◌, ◌++◌, length, map}
use Rattle.std.specs.Prelude.{Option, None, Some}
use Rattle.std.specs.List.{AllByRecursion}
use Rattle.std.specs.declared.result.Result.{Result}
use Rattle.std.specs.declared.result.Result.TheVariants.{Ok, Err}
use Rattle.base_disk.specs.Disk.{Tells}
use Rattle.base_refusals.specs.declared.refresh.Cause.{Cause}
use Rattle.base_schema.specs.State.{State}
use Rattle.store_journal.specs.Format.{IsBad, StandsFor}
use Rattle.store_refresh_entries.specs.Change.{IsReadable, IsSpelled, spelling_of}
use Rattle.store_state.specs.Refresh.{Change, after}
use Rattle.store_state.specs.Versions.{replayed, taken}
use Rattle.app_inputs.specs.Inputs.{BadInput}
use Rattle.app_inputs.specs.declared.input_error.InputFault.{InputFault}
use Rattle.app_inputs.specs.declared.input_error.InputFault.TheVariants as fault

-- what a read of each name of a disk gives, where that is told; no byte where there is no such file
abbrev pub Named : Type 0
Named = Option (List ℕ → List ℕ)

-- the most bytes of a journal
abbrev pub most_journal_bytes : ℕ
most_journal_bytes = 2 ^ 60

-- a file keeps these refreshes: it is empty and keeps none; or it is a journal whose entries spell
-- them, and each is read back
abbrev pub FileKeeps : List ℕ → List Change → Type 0
FileKeeps file changes = ((file ≡ []) × (changes ≡ []))
    ⊎ (StandsFor IsSpelled file (map spelling_of changes) × AllByRecursion IsReadable changes
    × (length file ≤ most_journal_bytes))

-- the refreshes before this one are accepted, each after those before it, and this one is refused
pub record IsFirstRefusedEntry (base : State) (changes : List Change) (number : ℕ) (cause : Cause)
    : Type 0 where
  pub before : List Change
  pub change : Change
  pub behind : List Change
  pub whole : changes ≡ before ++ change ∷ behind
  pub here : number ≡ length before + 1
  pub accepted : taken base before ≡ before
  pub refused : after (replayed base before) change ≡ Err cause

-- why the file of a journal is refused over a base
abbrev pub IsJournalFault : State → List ℕ → InputFault → Type 0
IsJournalFault base file (fault.BadEntry place) = (0 < length file)
    × (length file ≤ most_journal_bytes) × IsBad IsSpelled file place
IsJournalFault base file (fault.RefusedEntry number cause) =
    (changes : List Change) × FileKeeps file changes
    × IsFirstRefusedEntry base changes number cause
IsJournalFault base file fault.JournalTooLong = most_journal_bytes < length file
IsJournalFault base file other = ⊥

-- what the file of that name keeps, each accepted after those before it; or why it is refused
abbrev pub IsJournalOf : List ℕ → State → List ℕ → Result (List Change) BadInput → Type 0
IsJournalOf name base file (Ok changes) = FileKeeps file changes × (taken base changes ≡ changes)
IsJournalOf name base file (Err refused) =
    (refused.name ≡ name) × IsJournalFault base file refused.fault

-- why a file of which nothing is told may be refused over a base: it is a fault of a journal, and a
-- refresh that is refused stands in a list of refreshes, each of which is read back
abbrev pub MayBeJournalFault : State → InputFault → Type 0
MayBeJournalFault base (fault.BadEntry place) = ⊤
MayBeJournalFault base (fault.RefusedEntry number cause) = (changes : List Change)
    × AllByRecursion IsReadable changes × IsFirstRefusedEntry base changes number cause
MayBeJournalFault base fault.JournalTooLong = ⊤
MayBeJournalFault base other = ⊥

-- what such a file may keep: refreshes each of which is read back,
-- and accepted after those before it
abbrev pub MayBeJournal : List ℕ → State → Result (List Change) BadInput → Type 0
MayBeJournal name base (Ok changes) =
    AllByRecursion IsReadable changes × (taken base changes ≡ changes)
MayBeJournal name base (Err refused) =
    (refused.name ≡ name) × MayBeJournalFault base refused.fault

-- what a job's journal keeps, if the job has one, or why it is refused
abbrev pub IsKept : Option (List ℕ) → State → Named → Result (List Change) BadInput → Type 0
IsKept None base named kept = kept ≡ Ok []
IsKept (Some name) base None kept = MayBeJournal name base kept
IsKept (Some name) base (Some files) kept = IsJournalOf name base (files name) kept

-- a journal, if the job has one, then holds just these refreshes, where its file is told
abbrev pub HoldsThen : Option (List ℕ) → List Change → Option (List ℕ) → Type 0
HoldsThen None changes after = ⊤
HoldsThen (Some name) changes after =
    Tells after (λ file. StandsFor IsSpelled file (map spelling_of changes))

-- where the job has a journal, the disk is told
abbrev pub IsToldFor : Option (List ℕ) → Named → Type 0
IsToldFor None named = ⊤
IsToldFor (Some name) None = ⊥
IsToldFor (Some name) (Some files) = ⊤
