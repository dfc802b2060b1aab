-- A job whose journal is open, and what is played over it.
use Rattle.std.specs.Prelude.{◌≡◌, ◌+◌, ◌<◌, ◌≤◌, ◌^◌, ⊤, ℕ, Bool, List, length, map, take}
use Rattle.std.specs.declared.result.Result.{Result}
use Rattle.std.specs.declared.result.Result.TheVariants.{Ok, Err}
use Rattle.std.specs.Prelude.{None, Option, vec_len}
use Rattle.base_refusals.specs.declared.refresh.Cause.{Cause}
use Rattle.store_durability.specs.Feed.{StoredFits}
use Rattle.base_schema.specs.State.{State}
use Rattle.app_sessions.specs.declared.session.Session.{Session}
use Rattle.store_journal.specs.Format.{StandsFor}
use Rattle.store_journal.specs.declared.journal.Journal.{Journal}
use Rattle.store_refresh_entries.specs.Change.{IsSpelled, spelling_of}
use Rattle.store_snapshots.specs.declared.ruled.RuledEntry.{RuledEntry}
use Rattle.store_snapshots.specs.Ruled.{opening_of}
use Rattle.store_snapshots.specs.Turns.{from_nobody}
use Rattle.store_state.specs.Refresh.{Change}
use Rattle.store_state.specs.Versions.{taken}
use Rattle.store_versions.specs.Trials.{Trials}
use Rattle.app_inputs.specs.declared.input_error.InputFault.{InputFault}
use Rattle.app_inputs.specs.declared.input_error.InputFault.TheVariants as fault
use Rattle.app_sessions.specs.Asked.{AllUnasked, job_sessions}
use Rattle.app_sessions.specs.Jobs.{IsOrderText, JobSession}
use Rattle.app_sessions.specs.Workers.{AreOfOpening}
use Rattle.app_jobs.specs.Works.{JobWork, kept_under}
use Rattle.app_jobs.specs.JobTexts.{IsTextInOrder}
use Rattle.app_jobs.specs.Journals.{IsFirstRefusedEntry}
use Rattle.app_jobs.specs.Reaching.{PublishesKept}
use Rattle.app_jobs.specs.declared.kept.OpenJob.{OpenJob}
use Rattle.app_jobs.specs.declared.kept.Played.{Played}
use Rattle.app_jobs.specs.declared.kept.Played.TheVariants as played

-- the first entry that is refused is the reason
abbrev pub IsEntryRefused : Trials → ℕ → InputFault → Type 0
IsEntryRefused version kept why = (number : ℕ) × (cause : Cause)
    × (why ≡ fault.RefusedEntry number cause)
    × IsFirstRefusedEntry version.base (take kept version.list) number cause

-- the version behind which refreshes are left, once those that are kept are published; or why they
-- are not
abbrev pub StartsBehind : ℕ → Trials → Trials → Trials → Result Trials InputFault → Type 0
StartsBehind kept old new shown (Ok start) = (start ≡ new) × PublishesKept kept old new shown None
StartsBehind kept old new shown (Err why) = IsEntryRefused old kept why

-- what is played beside a publisher of a version whose list is stored as it is tried: in the end
-- each image that a crash may leave of the disk holds all accepted ones
abbrev pub IsFedText : {D : Type 0} → (D → List ℕ → Type 0) → Trials → ℕ → List JobSession → D
    → Played → Type 0
IsFedText may_leave version before sessions disk (played.Text job) =
    IsOrderText version.base (from_nobody version.list) version.done before sessions job
    × ((c : List ℕ) → may_leave disk c
    → StandsFor IsSpelled c (map spelling_of (taken version.base version.list)))
IsFedText may_leave version before sessions disk (played.Refused why) = ⊥
IsFedText may_leave version before sessions disk played.DiskFault = ⊤

-- an open job that can be played over its disk
pub record CanPlay {D A N B : Type 0} (is_reached : D → Bool) (may_leave : D → List ℕ → Type 0)
    (job : OpenJob A (RuledEntry A) N B) (disk : D) : Type 0 where
  pub some : 0 < vec_len job.sessions
  pub few : vec_len job.sessions < 2 ^ 32
  pub unasked : AllUnasked job.sessions.items
  pub readers : 0 < vec_len job.readers
  pub opened : AreOfOpening opening_of job.publisher.version job.readers.items
  pub shown : job.publisher.shown ≡ job.publisher.version
  pub whole : job.publisher.version.most ≡ length job.publisher.version.list
  pub before : job.publisher.version.done + job.before ≤ length job.publisher.version.list
  pub start : job.start ≡ job.publisher.version
  pub fits : StoredFits is_reached may_leave job.journal disk job.publisher.version

-- what it gives
abbrev pub PlaysOpen : {D A N B : Type 0} → (D → List ℕ → Type 0) → OpenJob A (RuledEntry A) N B
    → D → Played → Type 0
PlaysOpen may_leave job disk result =
    IsFedText may_leave job.publisher.version job.before (job_sessions job.sessions.items)
    disk result

-- what a job gives over the refreshes that its journal keeps, whatever its name: its text, where
-- each of them is accepted; or which of them is refused first
abbrev pub PlaysKept : List Change → Option (List ℕ) → JobWork → List JobSession → Played → Type 0
PlaysKept kept journal_then work sessions (played.Text job) = (taken work.base kept ≡ kept)
    × ((name : List ℕ) → IsTextInOrder (kept_under work name kept) journal_then sessions job)
PlaysKept kept journal_then work sessions (played.Refused why) = (number : ℕ) × (cause : Cause)
    × (why ≡ fault.RefusedEntry number cause) × IsFirstRefusedEntry work.base kept number cause
PlaysKept kept journal_then work sessions played.DiskFault = ⊤

-- A job is opened over a list whose first refreshes a journal keeps: a publisher of the list has
-- published these, and is to have so many in the end; or one of these is refused.
abbrev pub OpensJob : {A N B : Type 0} → ℕ → ℕ → Journal → List Change → List Session → State → ℕ
    → Result (OpenJob A (RuledEntry A) N B) InputFault → Type 0
OpensJob kept most journal list sessions base before (Ok job) = (job.sessions.items ≡ sessions)
    × (job.journal ≡ journal) × (job.before ≡ before) × (job.start ≡ job.publisher.version)
    × (job.publisher.version
    ≡ record { base = base; list = list; done = kept; most = most })
    × (job.publisher.shown ≡ job.publisher.version) × (0 < vec_len job.readers)
    × AreOfOpening opening_of job.publisher.version job.readers.items
    × (taken base (take kept list) ≡ take kept list)
OpensJob kept most journal list sessions base before (Err why) = (number : ℕ) × (cause : Cause)
    × (why ≡ fault.RefusedEntry number cause)
    × IsFirstRefusedEntry base (take kept list) number cause
