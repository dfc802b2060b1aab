-- The parts of a job's text.
use Rattle.std.specs.Prelude.{◌≡◌, ℕ, ◌<◌, ⊤, Bool, ◌&&◌, List, [], ◌++◌, length, slice_index_or}
use Rattle.store_snapshots.specs.Openings.{Opening}
use Rattle.store_versions.specs.Trials.{Trials}
use Rattle.store_state.specs.Refresh.{Change}
use Rattle.base_schema.specs.State.{State}
use Rattle.app_sessions.specs.Asked.{AllUnasked, job_sessions}
use Rattle.app_sessions.specs.Jobs.{ArePermitted, JobAnswer, JobSession, are_sessions_clean}
use Rattle.app_sessions.specs.Jobs.{sessions_text}
use Rattle.app_sessions.specs.Workers.{AllInformed, IsNumber, IsNumberOver, IsPlaced, NoneIsLost}
use Rattle.app_sessions.specs.Workers.{place_of, sessions_of}
use Rattle.app_sessions.specs.declared.session.Session.{Session}
use Rattle.app_sessions.specs.declared.worker.Worker.{Worker}

-- the text of these sessions for the versions in it
pub record IsSessionsText (o : State × List Change) (low high : ℕ) (all : List JobSession)
    (job : JobAnswer) : Type 0 where
  pub versions : ArePermitted low high all job.versions
  pub text : job.text ≡ sessions_text o.0 o.1 1 all job.versions
  pub clean : job.is_clean ≡ are_sessions_clean o.0 o.1 all job.versions

-- where the first n sessions stand at their places and each of their statements had its turn,
-- this is their text
abbrev pub Gathers : {E N A : Type 0} → List (Worker E N A) → ℕ → JobAnswer → Type 0
Gathers workers count job =
    (o : State × List Change) (low high : ℕ) (all : List JobSession) → length all ≡ count
    → ((k : ℕ) → k < count
    → IsPlaced sessions_of workers (place_of (length workers) k) (IsNumberOver o low high all k))
    → IsSessionsText o low high all job

-- workers whose readers have seen at least a version of that number, with these sessions, none of
-- which was asked
pub record ArePrepared {E N A : Type 0} (opening : E → Opening) (fits : E → List Change → Type 0)
    (start : Trials) (low : ℕ) (sessions : List Session) (workers : List (Worker E N A))
    : Type 0 where
  pub some : 0 < length workers
  pub informed : AllInformed opening fits start low workers
  pub unasked :
      (i : ℕ) (d : Worker E N A) → i < length workers
      → AllUnasked (sessions_of (slice_index_or workers i d))
  pub placed :
      (k : ℕ) → k < length sessions
      → IsPlaced sessions_of workers (place_of (length workers) k)
      (IsNumber (job_sessions sessions) k)

-- each session has a place
abbrev pub HavePlaces : {E N A : Type 0} → List (Worker E N A) → ℕ → Type 0
HavePlaces workers count =
    (k : ℕ) → k < count → IsPlaced sessions_of workers (place_of (length workers) k) (λ s. ⊤)

-- memory ran out for no worker, and the whole text is that of the sessions and then the other lines
pub record IsJoined {E N A : Type 0} (workers : List (Worker E N A)) (count : ℕ) (lines : List ℕ)
    (accepted : Bool) (job : JobAnswer) : Type 0 where
  pub none_lost : NoneIsLost workers
  pub sessions : JobAnswer
  pub gathers : Gathers workers count sessions
  pub whole : job.text ≡ sessions.text ++ lines
  pub versions : job.versions ≡ sessions.versions
  pub clean : job.is_clean ≡ (sessions.is_clean && accepted)
