-- Sessions of a job on their way, and at their end.
use Rattle.std.specs.Prelude.{◌≡◌, ℕ, ◌<◌, ◌≤◌, true, List, [], length, map, slice_index_or, Some}
use Rattle.std.specs.List.{All}
use Rattle.std.specs.Option.{ForSome}
use Rattle.sql_ast.specs.declared.statement.Statement.{Statement}
use Rattle.store_snapshots.specs.Openings.{Opening}
use Rattle.store_state.specs.Refresh.{Change}
use Rattle.base_schema.specs.State.{State}
use Rattle.app_sessions.specs.Jobs.{IsRun, JobSession, last_version, moments_at, session_lines}
use Rattle.app_sessions.specs.Laws.{course_through}
use Rattle.app_sessions.specs.Sessions.{Course, IsRefresh, are_clean, course_of}
use Rattle.app_sessions.specs.declared.session.Session.{Session}

-- a session as a job has it
abbrev pub job_session : Session → JobSession
job_session session = record {
  steps = session.steps;
  first_views = session.first_views;
  shows_rows = session.shows_rows;
}

-- all of them
abbrev pub job_sessions : List Session → List JobSession
job_sessions sessions = map job_session sessions

-- none of the statements is a refresh
abbrev pub HaveNoRefresh : List Statement → Type 0
HaveNoRefresh steps = All (λ s. IsRefresh (Some s) → ⊥) steps

-- no statement had its turn
pub record IsFresh (course : Course) : Type 0 where
  pub answered : course.answered ≡ 0
  pub versions : course.versions ≡ []
  pub views : course.views ≡ course.first_views
  pub text : course.text ≡ []
  pub is_clean : course.is_clean ≡ true

-- a session that a job can run: no statement had its turn, and none is a refresh
pub record IsUnasked (session : Session) : Type 0 where
  pub fresh : IsFresh (course_of session)
  pub plain : HaveNoRefresh session.steps

-- so are all of them
abbrev pub AllUnasked : List Session → Type 0
AllUnasked sessions = (i : ℕ) (d : Session) → i < length sessions
    → IsUnasked (slice_index_or sessions i d)

-- A session that began so, and whose statements began over its versions, which never fall from one
-- on up to another, is what the moments at these versions make of it.
pub record IsAsked (base : State) (list : List Change) (low high : ℕ) (start course : Course)
    : Type 0 where
  pub made : course ≡ course_through start (moments_at base list course.versions)
  pub run : IsRun low high course.versions
  pub count : length course.versions ≡ course.answered
  pub steps : course.steps ≡ start.steps
  pub first_views : course.first_views ≡ start.first_views
  pub shows : course.shows_rows ≡ start.shows_rows
  pub within : course.answered ≤ length start.steps

-- the same over the base of an opening and each list that fits
abbrev pub IsAskedOf : Opening → (List Change → Type 0) → ℕ → ℕ → Course → Course → Type 0
IsAskedOf opening fits low high start course =
    ForSome opening
    (λ o. (list : List Change) → fits list → IsAsked o.0 list low high start course)

-- A session of which each statement had its turn, begun over versions that never fall, has this
-- text.
pub record IsOver (base : State) (list : List Change) (low high : ℕ) (session : JobSession)
    (course : Course) : Type 0 where
  pub text : course.text ≡ session_lines base list session course.versions
  pub clean :
      course.is_clean
      ≡ are_clean session.first_views session.steps (moments_at base list course.versions)
  pub run : IsRun low high course.versions
  pub all : length course.versions ≡ length session.steps

-- so it is over each list that fits, up to the last version of that list
pub record IsOverOf (opening : Opening) (fits : List Change → Type 0) (low : ℕ) (session : Session)
    : Type 0 where
  pub over :
      ForSome opening
      (λ o. (list : List Change) → fits list
      → IsOver o.0 list low (last_version o.0 list) (job_session session) (course_of session))

-- so are all of them
abbrev pub AllOver : Opening → (List Change → Type 0) → ℕ → List Session → Type 0
AllOver opening fits low sessions =
    (i : ℕ) (d : Session) → i < length sessions
    → IsOverOf opening fits low (slice_index_or sessions i d)

-- the sessions have the statements that they had
pub record SameSessions (old new : List Session) : Type 0 where
  pub len : length new ≡ length old
  pub each :
      (i : ℕ) (d : Session) → i < length old
      → job_session (slice_index_or new i d) ≡ job_session (slice_index_or old i d)
