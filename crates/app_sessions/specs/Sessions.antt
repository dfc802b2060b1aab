-- Sessions: their text, statement by statement, and how far a running one is.
use Rattle.std.specs.Prelude.{◌≡◌, ℕ, ◌+◌, List, [], ◌∷◌, ◌++◌, Bool, true, false, ◌&&◌, not}
use Rattle.std.specs.Prelude.{Option, None, Some, slice_get, Result, Ok, Err}
use Rattle.std.specs.declared.alloc.AllocError.{AllocError}
use Rattle.base_refusals.specs.declared.refresh.Cause.{Cause}
use Rattle.sql_ast.specs.declared.statement.Statement.{Statement}
use Rattle.sql_ast.specs.declared.statement.Statement.TheVariants.{Refresh}
use Rattle.sql_ast.specs.declared.statement.RefreshKind.{RefreshKind}
use Rattle.sql_binder_steps.specs.declared.view.View.{View}
use Rattle.base_schema.specs.State.{State}
use Rattle.app_sessions.specs.Expansion.{ExpandAll}
use Rattle.app_sessions.specs.Outcomes.{Moment, is_refusal, outcome_lines, outcome_of}
use Rattle.app_sessions.specs.Outcomes.{statement_text}
use Rattle.app_sessions.specs.Versions.{version_named}
use Rattle.app_sessions.specs.Views.{views_after}
use Rattle.app_sessions.specs.declared.outcome.Outcome.{Outcome}
use Rattle.app_sessions.specs.declared.session.Session.{Session}
use Rattle.app_sessions.specs.declared.session.Turn.{Turn}
use Rattle.app_sessions.specs.declared.session.Turn.TheVariants.{Answered, AskedRefresh, Ended}

-- The text of statements, numbered on, each at its moment. Views are the session's own.
abbrev pub lines_of : Bool → ℕ → List View → List Statement → List Moment → List ℕ
lines_of shows_rows number views [] moments = []
lines_of shows_rows number views (statement ∷ statements) [] = []
lines_of shows_rows number views (statement ∷ statements) (moment ∷ moments) =
    statement_text shows_rows number moment views statement
    ++ lines_of shows_rows (number + 1) (views_after views statement) statements moments

-- none of the statements is refused, each at its moment
abbrev pub are_clean : List View → List Statement → List Moment → Bool
are_clean views [] moments = true
are_clean views (statement ∷ statements) [] = true
are_clean views (statement ∷ statements) (moment ∷ moments) =
    not (is_refusal (outcome_of moment views statement))
    && are_clean (views_after views statement) statements moments

-- The course of a session: the statements that its script stands for, how many of them have their
-- lines, the versions over which these began, the views that it began with, its views, its text,
-- whether no line is a refusal, whether rows are printed, and whether memory ran out.
pub record Course : Type 0 where
  pub steps : List Statement
  pub answered : ℕ
  pub versions : List ℕ
  pub first_views : List View
  pub views : List View
  pub text : List ℕ
  pub is_clean : Bool
  pub shows_rows : Bool
  pub is_lost : Bool

-- how far a session is
abbrev pub course_of : Session → Course
course_of session = record {
  steps = session.steps;
  answered = session.answered;
  versions = session.versions.items;
  first_views = session.first_views;
  views = session.views;
  text = session.text.items;
  is_clean = session.is_clean;
  shows_rows = session.shows_rows;
  is_lost = session.is_lost;
}

-- a session that begins with the statements that a script's stand for, and with these views
pub record Begins (statements : List Statement) (with_rows : Bool) (given : List View)
    (course : Course) : Type 0 where
  pub expanded : ExpandAll statements course.steps
  pub answered : course.answered ≡ 0
  pub versions : course.versions ≡ []
  pub first_views : course.first_views ≡ given
  pub views : course.views ≡ given
  pub text : course.text ≡ []
  pub is_clean : course.is_clean ≡ true
  pub shows_rows : course.shows_rows ≡ with_rows
  pub going : course.is_lost ≡ false

-- the statement whose turn it is
abbrev pub next_of : Course → Option Statement
next_of course = slice_get course.steps course.answered

-- a session with the lines of its next statement, which began over a version and names one or none,
-- by what came of it
abbrev pub with_lines : Course → ℕ → Option ℕ → Outcome → Course
with_lines course begun named outcome = record course {
  answered = course.answered + 1;
  versions = course.versions ++ begun ∷ [];
  text = course.text ++ outcome_lines course.shows_rows (course.answered + 1) begun named outcome;
  is_clean = course.is_clean && not (is_refusal outcome);
}

-- a session after a statement's turn at a moment
abbrev pub course_after : Course → Moment → Statement → Course
course_after course moment statement =
    record (with_lines course moment.version (version_named statement)
    (outcome_of moment course.views statement)) {
      views = views_after course.views statement;
    }

-- the statement is a refresh
abbrev pub IsRefresh : Option Statement → Type 0
IsRefresh next = (change : RefreshKind) × (set : ℕ) × (next ≡ Some (Refresh change set))

-- What a turn over a version leaves, by the tables of each version. A statement that is no refresh
-- has its lines. A refresh is asked for, and nothing changes before its result is there; nothing
-- changes where no statement is left.
abbrev pub Takes : Course → ℕ → (ℕ → State) → Course → Turn → Type 0
Takes old version tables new Answered = (statement : Statement) × (next_of old ≡ Some statement)
    × (IsRefresh (next_of old) → ⊥)
    × ((tried : Result ℕ Cause)
    → new ≡ course_after old
    (record { version = version; tables = tables; tried = tried }) statement)
Takes old version tables new (AskedRefresh change set) = (next_of old ≡ Some (Refresh change set))
    × (new ≡ old)
Takes old version tables new Ended = (next_of old ≡ None) × (new ≡ old)

-- the same, or memory ran out, now or before
abbrev pub Goes : Course → ℕ → (ℕ → State) → Course → Result Turn AllocError → Type 0
Goes old version tables new (Ok turn) = (old.is_lost ≡ false) × Takes old version tables new turn
Goes old version tables new (Err error) = new.is_lost ≡ true

-- what handing in the result of a refresh leaves: its line; or memory ran out, now or before
abbrev pub HandsIn : Course → ℕ → Result ℕ Cause → Course → Result (Unit {0}) AllocError → Type 0
HandsIn old version tried new (Ok done) = (old.is_lost ≡ false)
    × ((statement : Statement) (tables : ℕ → State) → next_of old ≡ Some statement
    → new ≡ course_after old
    (record { version = version; tables = tables; tried = tried }) statement)
HandsIn old version tried new (Err error) = new.is_lost ≡ true
