-- What the threads of a job do: each has a reader and the sessions that it serves.
use Rattle.std.specs.Prelude.{◌≡◌, ℕ, ◌+◌, ◌<◌, ◌≤◌, zero, suc, nat_lt, if◌then◌else◌, List, []}
use Rattle.std.specs.Prelude.{length}
use Rattle.std.specs.Prelude.{false, slice_index_or, Some}
use Rattle.store_versions.specs.Trials.{Trials, version_of}
use Rattle.store_snapshots.specs.Openings.{AllBegin, Opening, IsOf, opening_at}
use Rattle.store_snapshots.specs.Seen.{ReaderState}
use Rattle.store_state.specs.Refresh.{Change}
use Rattle.base_schema.specs.State.{State}
use Rattle.app_sessions.specs.Asked.{AllOver, AllUnasked, IsOver, SameSessions, job_session}
use Rattle.app_sessions.specs.Asked.{job_sessions}
use Rattle.app_sessions.specs.Jobs.{JobSession}
use Rattle.app_sessions.specs.Sessions.{course_of}
use Rattle.app_sessions.specs.declared.session.Session.{Session}
use Rattle.app_sessions.specs.declared.worker.Worker.{Worker}

-- the sessions of a worker
abbrev pub sessions_of : {E N A : Type 0} → Worker E N A → List Session
sessions_of worker = worker.sessions.items

-- a worker that can begin: its reader is of an opening, each list that fits what its reader saw
-- begins with the one that was seen, and its sessions can be run
pub record IsReady {E N A : Type 0} (opening : E → Opening) (fits : E → List Change → Type 0)
    (worker : Worker E N A) : Type 0 where
  pub seen : IsOf (opening worker.reader.entry) worker.reader.seen
  pub list : AllBegin (fits worker.reader.entry) worker.reader.seen.list
  pub unasked : AllUnasked (sessions_of worker)
  pub going : worker.is_lost ≡ false

-- A worker that has run, whose reader is of the same opening. Where memory did not run out, its
-- sessions have the statements that they had, and each of these had its turn, at the version that
-- its reader had seen or at later ones, of each list that fits what its reader saw by then.
pub record HasRun {E N A : Type 0} (opening : E → Opening) (fits : E → List Change → Type 0)
    (old new : Worker E N A) : Type 0 where
  pub opened : opening new.reader.entry ≡ opening old.reader.entry
  pub len : length (sessions_of new) ≡ length (sessions_of old)
  pub same : new.is_lost ≡ false → SameSessions (sessions_of old) (sessions_of new)
  pub over :
      new.is_lost ≡ false
      → AllOver (opening old.reader.entry) (fits new.reader.entry) (version_of old.reader.seen)
      (sessions_of new)

-- so each of them can begin
abbrev pub AllReady : {E N A : Type 0} → (E → Opening) → (E → List Change → Type 0)
    → List (Worker E N A) → Type 0
AllReady {E} {N} {A} opening fits workers =
    (i : ℕ) (d : Worker E N A) → i < length workers
    → IsReady opening fits (slice_index_or workers i d)

-- so each of them has run
pub record AllHaveRun {E N A : Type 0} (opening : E → Opening) (fits : E → List Change → Type 0)
    (olds news : List (Worker E N A)) : Type 0 where
  pub len : length news ≡ length olds
  pub each :
      (i : ℕ) (d : Worker E N A) → i < length olds
      → HasRun opening fits (slice_index_or olds i d) (slice_index_or news i d)

-- a worker whose reader is of an opening of which this version is
pub record MayMeet {E N A : Type 0} (opening : E → Opening) (shown : Trials) (worker : Worker E N A)
    : Type 0 where
  pub named : State × List Change × ℕ
  pub opened : opening worker.reader.entry ≡ Some named
  pub version : IsOf (Some named) shown

-- so is each of them
abbrev pub AllMayMeet : {E N A : Type 0} → (E → Opening) → Trials → List (Worker E N A) → Type 0
AllMayMeet {E} {N} {A} opening shown workers =
    (i : ℕ) (d : Worker E N A) → i < length workers
    → MayMeet opening shown (slice_index_or workers i d)

-- a worker that has met the publisher: all but its reader stays, and this list fits what its reader
-- had seen
pub record HasMet {E N A : Type 0} (fits : E → List Change → Type 0) (list : List Change)
    (old new : Worker E N A) : Type 0 where
  pub sessions : sessions_of new ≡ sessions_of old
  pub going : new.is_lost ≡ old.is_lost
  pub whole : fits old.reader.entry list

-- so each of them has met it
pub record AllHaveMet {E N A : Type 0} (fits : E → List Change → Type 0) (list : List Change)
    (olds news : List (Worker E N A)) : Type 0 where
  pub len : length news ≡ length olds
  pub each :
      (i : ℕ) (d : Worker E N A) → i < length olds
      → HasMet fits list (slice_index_or olds i d) (slice_index_or news i d)

-- memory ran out for none of them
abbrev pub NoneIsLost : {E N A : Type 0} → List (Worker E N A) → Type 0
NoneIsLost {E} {N} {A} workers =
    (i : ℕ) (d : Worker E N A) → i < length workers → (slice_index_or workers i d).is_lost ≡ false

-- a worker whose reader is of the opening of a version, and has seen at least a version of that
-- number
pub record IsInformed {E N A : Type 0} (opening : E → Opening) (fits : E → List Change → Type 0)
    (start : Trials) (low : ℕ) (worker : Worker E N A) : Type 0 where
  pub opened : opening worker.reader.entry ≡ opening_at start
  pub seen : IsOf (opening worker.reader.entry) worker.reader.seen
  pub list : AllBegin (fits worker.reader.entry) worker.reader.seen.list
  pub least : low ≤ version_of worker.reader.seen
  pub going : worker.is_lost ≡ false

-- so are all of them
abbrev pub AllInformed : {E N A : Type 0} → (E → Opening) → (E → List Change → Type 0) → Trials → ℕ
    → List (Worker E N A) → Type 0
AllInformed {E} {N} {A} opening fits start low workers =
    (i : ℕ) (d : Worker E N A) → i < length workers
    → IsInformed opening fits start low (slice_index_or workers i d)

-- each reader is of the version's opening
abbrev pub AreOfOpening : {E : Type 0} → (E → Opening) → Trials → List (ReaderState E) → Type 0
AreOfOpening {E} opening version readers =
    (i : ℕ) (d : ReaderState E) → i < length readers
    → opening (slice_index_or readers i d).entry ≡ opening_at version

-- none has a session yet
abbrev pub AllIdle : {E N A : Type 0} → List (Worker E N A) → Type 0
AllIdle {E} {N} {A} workers =
    (i : ℕ) (d : Worker E N A) → i < length workers → sessions_of (slice_index_or workers i d) ≡ []

-- the next place in turn among n workers: a worker, and how many sessions it then has
abbrev pub next_place : ℕ → ℕ × ℕ → ℕ × ℕ
next_place count place =
    if nat_lt (place.0 + 1) count then (place.0 + 1, place.1) else (0, place.1 + 1)

-- the worker of a session and its place in it, all counted from 0
abbrev pub place_of : ℕ → ℕ → ℕ × ℕ
place_of count zero = (0, 0)
place_of count (suc k) = next_place count (place_of count k)

-- P holds of the session at this place
pub record IsPlaced {W : Type 0} (sessions : W → List Session) (workers : List W) (place : ℕ × ℕ)
    (P : Session → Type 0) : Type 0 where
  pub turn : place.0 < length workers
  pub round : (d : W) → place.1 < length (sessions (slice_index_or workers place.0 d))
  pub session :
      (d : W) (s : Session)
      → P (slice_index_or (sessions (slice_index_or workers place.0 d)) place.1 s)

-- no session
abbrev pub no_session : JobSession
no_session = record { steps = []; first_views = []; shows_rows = false }

-- it is the session of this number, from 0
abbrev pub IsNumber : List JobSession → ℕ → Session → Type 0
IsNumber all k session = job_session session ≡ slice_index_or all k no_session

-- the first n sessions stand at their places, none was asked, and the workers are as before
pub record AreAssigned {E N A : Type 0} (sessions : List Session) (olds news : List (Worker E N A))
    (count : ℕ) : Type 0 where
  pub len : length news ≡ length olds
  pub reader :
      (i : ℕ) (d : Worker E N A) → i < length olds
      → (slice_index_or news i d).reader ≡ (slice_index_or olds i d).reader
  pub going :
      (i : ℕ) (d : Worker E N A) → i < length olds
      → (slice_index_or news i d).is_lost ≡ (slice_index_or olds i d).is_lost
  pub unasked :
      (i : ℕ) (d : Worker E N A) → i < length olds
      → AllUnasked (sessions_of (slice_index_or news i d))
  pub placed :
      (k : ℕ) → k < count
      → IsPlaced sessions_of news (place_of (length olds) k) (IsNumber (job_sessions sessions) k)

-- it is the session of this number, and each of its statements had its turn
pub record IsNumberOver (o : State × List Change) (low high : ℕ) (all : List JobSession) (k : ℕ)
    (session : Session) : Type 0 where
  pub number : IsNumber all k session
  pub over : IsOver o.0 o.1 low high (job_session session) (course_of session)
