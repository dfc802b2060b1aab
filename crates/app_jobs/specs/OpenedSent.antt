-- A job whose journal is open and of which two senders send refreshes, and what is played over it.
use Rattle.std.specs.Prelude.{◌≡◌, ◌+◌, ◌<◌, ◌^◌, ⊤, ℕ, Bool, true, List, [], length, map, vec_len}
use Rattle.std.specs.Prelude.{Option, None, Some}
use Rattle.base_schema.specs.State.{State}
use Rattle.store_durability.specs.Gateway.{BothFit}
use Rattle.store_gateway.specs.Roles.{Sending, Taking, sent_by}
use Rattle.store_gateway.specs.declared.message.SenderId.{SenderId}
use Rattle.store_gateway.specs.declared.message.SenderId.TheVariants.{First, Second}
use Rattle.store_journal.specs.Format.{StandsFor}
use Rattle.store_journal.specs.declared.journal.Journal.{Journal}
use Rattle.store_refresh_entries.specs.Change.{IsSpelled, spelling_of}
use Rattle.store_snapshots.specs.declared.ruled.RuledEntry.{RuledEntry}
use Rattle.store_snapshots.specs.Ruled.{opening_of}
use Rattle.store_state.specs.Refresh.{Change}
use Rattle.store_state.specs.Versions.{taken}
use Rattle.store_versions.specs.Trials.{Trials}
use Rattle.app_sessions.specs.Asked.{AllUnasked, job_sessions}
use Rattle.app_sessions.specs.Jobs.{IsOrderText, JobAnswer, JobSession}
use Rattle.app_sessions.specs.Orders.{changes_of}
use Rattle.app_sessions.specs.Workers.{AreOfOpening}
use Rattle.app_sessions.specs.declared.job.JobSetup.{JobSetup}
use Rattle.app_jobs.specs.Receivers.{BothEnd, MaySendBoth}
use Rattle.app_jobs.specs.Senders.{order_sent}
use Rattle.app_jobs.specs.declared.kept.Played.{Played}
use Rattle.app_jobs.specs.declared.kept.Played.TheVariants as played
use Rattle.app_jobs.specs.declared.kept_senders.SentJob.{SentJob}
use Rattle.app_jobs.specs.declared.senders.Senders.{Senders}

-- it is there, and has this property
abbrev pub Waits : {A : Type 0} → Option A → (A → Type 0) → Type 0
Waits None P = ⊥
Waits (Some x) P = P x

-- a job that can be played over its disk beside a publisher and what a taker takes: it tries its
-- whole list before the sessions, and has so many refreshes in the end
pub record CanReceiveOver {D A N B : Type 0} (is_reached : D → Bool) (may_leave : D → List ℕ → Type 0)
    (version shown : Trials) (journal : Journal) (disk : D) (start : Trials) (count : ℕ)
    (taker : Taking) (setup : JobSetup (RuledEntry A) N B) : Type 0 where
  pub some : 0 < vec_len setup.sessions
  pub few : vec_len setup.sessions < 2 ^ 32
  pub unasked : AllUnasked setup.sessions.items
  pub readers : 0 < vec_len setup.readers
  pub opened : AreOfOpening opening_of version setup.readers.items
  pub shown_is : shown ≡ version
  pub most : setup.most ≡ version.most
  pub all : version.done + setup.before ≡ length version.list
  pub fits : BothFit is_reached may_leave journal disk start count taker version
  pub begins : (start ≡ version) × (count ≡ 0)
  pub fresh : taker.taken ≡ []

-- each image that a crash may leave of a disk holds the accepted ones of a list, and then of what
-- was taken
abbrev pub HoldsSent : (List ℕ → Type 0) → State → List Change → List (SenderId × Change) → Type 0
HoldsSent may_leave base list sent = (c : List ℕ) → may_leave c → StandsFor IsSpelled c
    (map spelling_of (taken base (changes_of (order_sent list sent))))

-- what is played beside a publisher of a version and a taker that took both ends: the text stands
-- over the order in which it took what was sent; or it took too few refreshes, and there is none
abbrev pub IsReceivedOver : {D : Type 0} → (D → List ℕ → Type 0) → Trials → ℕ → List JobSession → D
    → Taking → Option Played → Type 0
IsReceivedOver may_leave version before sessions disk taker None = (taker.ended ≡ (true, true))
    × (length (order_sent version.list taker.taken) < version.most)
IsReceivedOver may_leave version before sessions disk taker (Some (played.Text job)) =
    (taker.ended ≡ (true, true))
    × IsOrderText version.base (order_sent version.list taker.taken) version.done before
    sessions job
    × HoldsSent (may_leave disk) version.base version.list taker.taken
IsReceivedOver may_leave version before sessions disk taker (Some (played.Refused why)) = ⊥
IsReceivedOver may_leave version before sessions disk taker (Some played.DiskFault) = ⊤

-- the same of sessions that waited
abbrev pub HasReceivedOver : {D A N B : Type 0} → (D → List ℕ → Type 0) → Trials
    → Option (JobSetup (RuledEntry A) N B) → D → Taking → Option Played → Type 0
HasReceivedOver may_leave version None disk taker result = ⊥
HasReceivedOver may_leave version (Some setup) disk taker result = IsReceivedOver may_leave version
    setup.before (job_sessions setup.sessions.items) disk taker result

-- the senders that waited have ended
abbrev pub HaveEnded : Option Senders → Option (Sending × Sending) → Type 0
HaveEnded None ended = ⊥
HaveEnded (Some senders) None = ⊥
HaveEnded (Some senders) (Some ended) = BothEnd senders ended

-- the sessions of an open job
abbrev pub setup_of : {A N B : Type 0} → SentJob A (RuledEntry A) N B → JobSetup (RuledEntry A) N B
setup_of job = record {
  sessions = job.opened.sessions;
  readers = job.opened.readers;
  before = job.opened.before;
  most = job.most;
}

-- an open job with its senders, which are the taker's and send all that its list has not
pub record CanPlaySent {D A N B : Type 0} (is_reached : D → Bool) (may_leave : D → List ℕ → Type 0)
    (job : SentJob A (RuledEntry A) N B) (disk : D) : Type 0 where
  pub receives : CanReceiveOver is_reached may_leave job.opened.publisher.version
      job.opened.publisher.shown job.opened.journal disk job.opened.start 0 job.taker (setup_of job)
  pub senders : MaySendBoth job.senders
  pub gateways : (job.senders.first.gateway ≡ job.taker.gateway)
      × (job.senders.second.gateway ≡ job.taker.gateway)
  pub ids : (job.senders.first.id ≡ First) × (job.senders.second.id ≡ Second)
  pub whole : length job.opened.publisher.version.list
      + (length job.senders.firsts.items + length job.senders.seconds.items) ≡ job.most

-- the text of a job beside two senders that sent these refreshes after a version's list, in some
-- order that keeps each sender's own; in the end the disk holds all accepted ones
pub record IsKeptSentText (may_leave : List ℕ → Type 0) (version : Trials) (before : ℕ)
    (firsts seconds : List Change) (sessions : List JobSession) (job : JobAnswer) : Type 0 where
  pub sent : List (SenderId × Change)
  pub first : sent_by First sent ≡ firsts
  pub second : sent_by Second sent ≡ seconds
  pub text :
      IsOrderText version.base (order_sent version.list sent) version.done before sessions job
  pub holds : HoldsSent may_leave version.base version.list sent

-- what an open job gives beside its senders
abbrev pub PlaysSent : {D A N B : Type 0} → (D → List ℕ → Type 0) → SentJob A (RuledEntry A) N B
    → D → Played → Type 0
PlaysSent may_leave job disk (played.Text answer) =
    IsKeptSentText (may_leave disk) job.opened.publisher.version job.opened.before
    job.senders.firsts.items job.senders.seconds.items
    (job_sessions job.opened.sessions.items) answer
PlaysSent may_leave job disk (played.Refused why) = ⊥
PlaysSent may_leave job disk played.DiskFault = ⊤

-- a fault of the disk, where something is played
abbrev pub IsReceiveFault : Option Played → Type 0
IsReceiveFault None = ⊥
IsReceiveFault (Some (played.Text job)) = ⊥
IsReceiveFault (Some (played.Refused why)) = ⊥
IsReceiveFault (Some played.DiskFault) = ⊤
