-- The text of one session: each statement begins over the version that the refreshes before it
-- leave.
use Rattle.std.specs.Prelude.{ℕ, ◌+◌, ◌≡◌, ◌&&◌, List, [], ◌∷◌, ◌++◌, drop, length, Bool, true}
use Rattle.std.specs.Prelude.{Option, None, Some, Result, Ok, Err, slice_get, if◌then◌else◌}
use Rattle.app_sessions.specs.Outcomes.{Moment}
use Rattle.app_sessions.specs.Reports.{result_on}
use Rattle.app_sessions.specs.Sessions.{Course, are_clean, lines_of}
use Rattle.app_sessions.specs.Versions.{states_of}
use Rattle.base_refusals.specs.declared.refresh.Cause.{Cause}
use Rattle.store_versions.specs.Trials.{Trials, one_more, tables_of, trials_at, version_of}
use Rattle.sql_ast.specs.declared.statement.Statement.{Statement}
use Rattle.sql_ast.specs.declared.statement.Statement.TheVariants.{Refresh}
use Rattle.store_state.specs.Refresh.{Change, after}
use Rattle.base_schema.specs.State.{State}
use Rattle.app_jobs.specs.Works.{Work}
use Rattle.app_inputs.specs.Inputs.{mentions_of}
use Rattle.app_inputs.specs.declared.status.Status.{Status}
use Rattle.app_inputs.specs.declared.status.Status.TheVariants.{Done, SomeRefused}

-- what comes of the next refresh of a list; nothing is left to try past its end
abbrev pub tried_next : Trials → Option Change → Result ℕ Cause
tried_next trials (Some change) = result_on (tables_of trials) (version_of trials) change
tried_next trials None = Ok (version_of trials)

-- the moment of a statement after the refreshes that were tried
abbrev pub moment_after : Trials → Moment
moment_after trials =
    record {
      version = version_of trials;
      tables = states_of trials;
      tried = tried_next trials (slice_get trials.list trials.done);
    }

-- one more refresh is tried where the statement is one
abbrev pub trials_after : Trials → Statement → Trials
trials_after trials (Refresh change set) = one_more trials
trials_after trials other = trials

-- the moments of statements, one after another
abbrev pub moments : Trials → List Statement → List Moment
moments trials [] = []
moments trials (statement ∷ steps) =
    moment_after trials ∷ moments (trials_after trials statement) steps

-- at first nothing is tried
abbrev pub first_trials : Work → Trials
first_trials work = trials_at work.base work.list 0 (length work.list)

-- the text of a session
abbrev pub session_text : Work → List ℕ
session_text work = lines_of true 1 [] work.steps (moments (first_trials work) work.steps)

-- its status: some statement is refused, or none is
abbrev pub session_status : Work → Status
session_status work =
    if are_clean [] work.steps (moments (first_trials work) work.steps) then Done else SomeRefused

-- how many of the statements are refreshes
abbrev pub refresh_count : List Statement → ℕ
refresh_count steps = length (mentions_of steps)

-- the statements of a session that are left
abbrev pub left_of : Course → List Statement
left_of course = drop course.answered course.steps

-- the whole text of a session: what it has, and what the statements that are left add
abbrev pub text_from : Course → Trials → List ℕ
text_from course trials =
    course.text ++ lines_of true (course.answered + 1) course.views (left_of course)
    (moments trials (left_of course))

-- no statement of a session is refused, of those that had their turn and of those that are left
abbrev pub clean_from : Course → Trials → Bool
clean_from course trials =
    course.is_clean && are_clean course.views (left_of course) (moments trials (left_of course))

-- A session on its way to a text: each refresh that is left has its place in the list.
pub record IsOnTheWay (course : Course) (trials : Trials) (text : List ℕ) (clean : Bool)
    : Type 0 where
  pub shows : course.shows_rows ≡ true
  pub text_is : text ≡ text_from course trials
  pub clean_is : clean ≡ clean_from course trials
  pub places : trials.done + refresh_count (left_of course) ≡ length trials.list

-- a session at its beginning, which shows rows
pub record IsBegun (course : Course) : Type 0 where
  pub answered : course.answered ≡ 0
  pub views : course.views ≡ []
  pub text : course.text ≡ []
  pub is_clean : course.is_clean ≡ true
  pub shows_rows : course.shows_rows ≡ true

-- what a session of these statements works on
abbrev pub work_from : List Statement → Trials → Work
work_from steps trials = record { steps = steps; base = trials.base; list = trials.list }
