-- What reaching a job's journal answers, and what is played over it.
use Rattle.std.specs.Prelude.{◌≡◌, ◌≤◌, ◌^◌, ℕ, ⊤, Bool, true, false, List, map, take}
use Rattle.std.specs.Prelude.{Option, None, Some}
use Rattle.std.specs.List.{AllByRecursion}
use Rattle.std.specs.declared.result.Result.TheVariants.{Ok, Err}
use Rattle.base_disk.specs.Disk.{Tells}
use Rattle.base_refusals.specs.declared.refresh.Cause.{Cause}
use Rattle.base_schema.specs.State.{State}
use Rattle.store_journal.specs.Journal.{Stands}
use Rattle.store_journal.specs.declared.fault.JournalFault.{JournalFault}
use Rattle.store_journal.specs.declared.fault.JournalFault.TheVariants as journal
use Rattle.store_journal.specs.declared.journal.Journal.{Journal}
use Rattle.store_refresh_entries.specs.Change.{IsReadable, IsSpelled, spelling_of}
use Rattle.store_state.specs.Refresh.{Change}
use Rattle.store_state.specs.Versions.{taken}
use Rattle.store_versions.specs.Trials.{Trials}
use Rattle.app_inputs.specs.declared.input_error.InputFault.{InputFault}
use Rattle.app_inputs.specs.declared.input_error.InputFault.TheVariants as fault
use Rattle.app_sessions.specs.Jobs.{JobSession}
use Rattle.app_sessions.specs.Orders.{later_by}
use Rattle.app_jobs.specs.Works.{JobWork, kept_under}
use Rattle.app_jobs.specs.JobTexts.{IsTextInOrder}
use Rattle.app_jobs.specs.Journals.{FileKeeps, IsFirstRefusedEntry, IsJournalFault, IsKept, Named}
use Rattle.app_jobs.specs.declared.journal.Reached.{Reached}
use Rattle.app_jobs.specs.declared.journal.Reached.TheVariants as reached
use Rattle.app_jobs.specs.declared.kept.Played.{Played}
use Rattle.app_jobs.specs.declared.kept.Played.TheVariants as played

-- A journal that takes more, on a disk of which each image that a crash may leave keeps just these
-- refreshes, as the file did, where it is told.
pub record HasJournal {D : Type 0} (is_reached : D → Bool) (may_leave : D → List ℕ → Type 0)
    (file : Option (List ℕ)) (disk : D) (journal : Journal) (kept : List Change) : Type 0 where
  pub reached : is_reached disk ≡ true
  pub working : journal.is_shut ≡ false
  pub stands : Stands IsSpelled (may_leave disk) (map spelling_of kept) journal.end
  pub short : journal.end ≤ 2 ^ 61
  pub readable : AllByRecursion IsReadable kept
  pub keeps : Tells file (λ bytes. FileKeeps bytes kept)

-- the fault is one of a journal's bytes
abbrev pub IsOfFile : InputFault → Type 0
IsOfFile (fault.BadEntry place) = ⊤
IsOfFile fault.JournalTooLong = ⊤
IsOfFile other = ⊥

-- the file of a journal is refused, whatever the base
abbrev pub IsRefusedFile : Option (List ℕ) → InputFault → Type 0
IsRefusedFile file why = IsOfFile why
    × Tells file (λ bytes. (base : State) → IsJournalFault base bytes why)

-- what a journal's fault means to its reader
abbrev pub MeansFault : JournalFault → Reached → Type 0
MeansFault journal.Memory answer = ⊥
MeansFault journal.Failed answer = answer ≡ reached.DiskFault
MeansFault (journal.BadEntry place) answer = answer ≡ reached.Refused (fault.BadEntry place)
MeansFault journal.TooLong answer = answer ≡ reached.Refused fault.JournalTooLong

-- what comes of reaching it
abbrev pub IsReached : {D : Type 0} → (D → Bool) → (D → List ℕ → Type 0) → Option (List ℕ) → D
    → Reached → Type 0
IsReached is_reached may_leave file disk (reached.Journal journal kept) =
    HasJournal is_reached may_leave file disk journal kept.items
IsReached is_reached may_leave file disk (reached.Refused why) = IsRefusedFile file why
IsReached is_reached may_leave file disk reached.DiskFault = ⊤

-- the first refreshes of a list are published again: each is accepted, or the first one that isn't
-- is told
abbrev pub PublishesKept : ℕ → Trials → Trials → Trials → Option (ℕ × Cause) → Type 0
PublishesKept kept old new shown None = (new ≡ later_by kept old) × (shown ≡ new)
    × (taken old.base (take kept old.list) ≡ take kept old.list)
PublishesKept kept old new shown (Some (number, cause)) =
    IsFirstRefusedEntry old.base (take kept old.list) number cause

-- What comes of a job with a journal of that name: its text, over what the journal keeps; or why
-- its file is refused.
abbrev pub IsPlayed : List ℕ → Named → Option (List ℕ) → JobWork → List JobSession → Played → Type 0
IsPlayed name named journal_then work sessions (played.Text job) = (kept : List Change)
    × IsKept (Some name) work.base named (Ok kept)
    × IsTextInOrder (kept_under work name kept) journal_then sessions job
IsPlayed name named journal_then work sessions (played.Refused why) =
    IsKept (Some name) work.base named (Err (record { name = name; fault = why }))
IsPlayed name named journal_then work sessions played.DiskFault = ⊤

-- it is that the disk failed
abbrev pub IsPlayFault : Played → Type 0
IsPlayFault (played.Text job) = ⊥
IsPlayFault (played.Refused why) = ⊥
IsPlayFault played.DiskFault = ⊤

-- the same of reaching
abbrev pub IsReachFault : Reached → Type 0
IsReachFault (reached.Journal journal kept) = ⊥
IsReachFault (reached.Refused why) = ⊥
IsReachFault reached.DiskFault = ⊤
