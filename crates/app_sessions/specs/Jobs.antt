-- A job: sessions that run beside a publisher, and their text at the versions over which their
-- statements began.
use Rattle.std.specs.Prelude.{◌≡◌, ℕ, ◌+◌, ◌≤◌, ⊤, Bool, true, ◌&&◌, List, [], ◌∷◌, ◌++◌, codes}
use Rattle.std.specs.Prelude.{decimal}
use Rattle.std.specs.Prelude.{Ok, drop, length, map}
use Rattle.sql_ast.specs.declared.statement.Statement.{Statement}
use Rattle.sql_binder_steps.specs.declared.view.View.{View}
use Rattle.store_snapshots.specs.Turns.{from_nobody}
use Rattle.store_state.specs.Refresh.{Change}
use Rattle.store_state.specs.Versions.{accepted, version_state}
use Rattle.base_schema.specs.State.{State}
use Rattle.app_sessions.specs.Counts.{counts_text}
use Rattle.app_sessions.specs.Orders.{RefreshOrder, changes_of}
use Rattle.app_sessions.specs.Outcomes.{Moment}
use Rattle.app_sessions.specs.Reports.{are_accepted, report_text}
use Rattle.app_sessions.specs.Sessions.{are_clean, lines_of}

-- A session of a job: the statements that its script stands for, none of which is a refresh, the
-- views with which it begins, and whether the rows of its answers are printed.
pub record JobSession : Type 0 where
  pub steps : List Statement
  pub first_views : List View
  pub shows_rows : Bool

-- the moment of a statement that begins over a version of a list; the statement tries no refresh
abbrev pub moment_at : State → List Change → ℕ → Moment
moment_at base list version =
    record { version = version; tables = version_state base list; tried = Ok version }

-- the moments of statements that begin over these versions
abbrev pub moments_at : State → List Change → List ℕ → List Moment
moments_at base list versions = map (moment_at base list) versions

-- the text of a session whose statements began over these versions
abbrev pub session_lines : State → List Change → JobSession → List ℕ → List ℕ
session_lines base list session versions =
    lines_of session.shows_rows 1 session.first_views session.steps (moments_at base list versions)

-- the line before a session's text
abbrev pub session_head : ℕ → List ℕ
session_head number = codes "session " ++ decimal number ++ codes "\n"

-- the text of sessions, numbered on, each by the versions over which its statements began
abbrev pub sessions_text : State → List Change → ℕ → List JobSession → List (List ℕ) → List ℕ
sessions_text base list number [] lists = []
sessions_text base list number (session ∷ sessions) [] = []
sessions_text base list number (session ∷ sessions) (versions ∷ lists) =
    session_head number
    ++ (session_lines base list session versions
    ++ sessions_text base list (number + 1) sessions lists)

-- none of their statements is refused
abbrev pub are_sessions_clean : State → List Change → List JobSession → List (List ℕ) → Bool
are_sessions_clean base list [] lists = true
are_sessions_clean base list (session ∷ sessions) [] = true
are_sessions_clean base list (session ∷ sessions) (versions ∷ lists) =
    are_clean session.first_views session.steps (moments_at base list versions)
    && are_sessions_clean base list sessions lists

-- versions that never fall, from one on and up to another
abbrev pub IsRun : ℕ → ℕ → List ℕ → Type 0
IsRun low high [] = low ≤ high
IsRun low high (version ∷ versions) = (low ≤ version) × IsRun version high versions

-- Each session has one version for each of its statements, the one over which it begins, and they
-- never fall. A statement that names a version is asked over that one, which can be lower.
abbrev pub ArePermitted : ℕ → ℕ → List JobSession → List (List ℕ) → Type 0
ArePermitted low high [] [] = ⊤
ArePermitted low high [] (versions ∷ lists) = ⊥
ArePermitted low high (session ∷ sessions) [] = ⊥
ArePermitted low high (session ∷ sessions) (versions ∷ lists) =
    (length versions ≡ length session.steps) × IsRun low high versions
    × ArePermitted low high sessions lists

-- the line of the closing version
abbrev pub closing_line : ℕ → List ℕ
closing_line version = codes "closing version " ++ decimal version ++ codes "\n"

-- the lines after all is tried: the version, and how many rows each table then has
abbrev pub closing_text : State → List Change → ℕ → List ℕ
closing_text base list version =
    closing_line version ++ counts_text (version_state base list version)

-- the closing version, that of the whole list
abbrev pub last_version : State → List Change → ℕ
last_version base list = accepted base list (length list)

-- the lines of a job's refreshes; the first `kept` of their order are done before the job begins,
-- and have none
abbrev pub refreshes_text : State → RefreshOrder → ℕ → List ℕ
refreshes_text base order kept =
    report_text (version_state base (changes_of order) (accepted base (changes_of order) kept))
    (accepted base (changes_of order) kept) 1 (drop kept order)

-- none of the job's refreshes is refused
abbrev pub are_refreshes_accepted : State → RefreshOrder → ℕ → Bool
are_refreshes_accepted base order kept =
    are_accepted (version_state base (changes_of order) (accepted base (changes_of order) kept))
    (drop kept order)

-- the text of a job that tries refreshes in this order: its sessions, its refreshes, and its end
abbrev pub job_text : State → RefreshOrder → ℕ → List JobSession → List (List ℕ) → List ℕ
job_text base order kept sessions lists =
    sessions_text base (changes_of order) 1 sessions lists
    ++ (refreshes_text base order kept
    ++ closing_text base (changes_of order) (last_version base (changes_of order)))

-- no statement and no refresh of a job is refused
abbrev pub is_job_clean : State → RefreshOrder → ℕ → List JobSession → List (List ℕ) → Bool
is_job_clean base order kept sessions lists =
    are_sessions_clean base (changes_of order) sessions lists
    && are_refreshes_accepted base order kept

-- what a job's text is seen as: its bytes, the versions over which the statements of each session
-- began, and whether no line is a refusal
pub record JobAnswer : Type 0 where
  pub text : List ℕ
  pub versions : List (List ℕ)
  pub is_clean : Bool

-- The text of a job that tries refreshes in this order, for the versions over which its statements
-- began. The first `kept` refreshes are done before the job begins. The versions go from the number
-- accepted of these and the `before` ones after them, which were told of before the sessions began,
-- up to the closing version.
pub record IsOrderText (base : State) (order : RefreshOrder) (kept before : ℕ)
    (sessions : List JobSession) (job : JobAnswer) : Type 0 where
  pub versions : ArePermitted (accepted base (changes_of order) (kept + before))
      (last_version base (changes_of order)) sessions job.versions
  pub text : job.text ≡ job_text base order kept sessions job.versions
  pub clean : job.is_clean ≡ is_job_clean base order kept sessions job.versions

-- the text of a job whose refreshes are those of a list, in the list's order
abbrev pub IsJobText : State → List Change → ℕ → List JobSession → JobAnswer → Type 0
IsJobText base list before sessions job =
    IsOrderText base (from_nobody list) 0 before sessions job
