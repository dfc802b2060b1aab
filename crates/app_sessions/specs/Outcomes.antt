-- What comes of a statement, and how it is printed.
use Rattle.std.specs.Prelude.{ℕ, List, [], ◌++◌, length, Bool, true, false, Result, Ok, Err}
use Rattle.std.specs.Prelude.{if◌then◌else◌, Option, None, Some}
use Rattle.sql_bound_query.specs.Answer.{answer}
use Rattle.plan_kept_queries.specs.Scans.{reads}
use Rattle.sql_bound_query.specs.declared.query.BoundQuery.{BoundQuery}
use Rattle.sql_templates.specs.Templates.{filled_query}
use Rattle.base_refusals.specs.declared.refresh.Cause.{Cause}
use Rattle.base_refusals.specs.declared.statement.FaultKind.{FaultKind}
use Rattle.base_refusals.specs.declared.statement.FaultKind.TheVariants as kind
use Rattle.base_refusals.specs.declared.statement.Refusal.{Refusal}
use Rattle.base_refusals.specs.declared.statement.Refusal.TheVariants as refusal
use Rattle.base_refusals.specs.declared.statement.TemplateRefusal.{TemplateRefusal}
use Rattle.app_result_text.specs.Answer.{answer_text, header, rows_have_no_fault}
use Rattle.app_result_text.specs.Lines.{accepted_text, done_text, refusal_text}
use Rattle.app_result_text.specs.Version.{version_refusal_text}
use Rattle.app_result_text.specs.declared.version.VersionRefusal.{VersionRefusal}
use Rattle.sql_ast.specs.declared.statement.Statement.{Statement}
use Rattle.sql_ast.specs.declared.statement.Statement.TheVariants as statement
use Rattle.sql_binder.specs.Binding.{bound_query}
use Rattle.sql_binder_steps.specs.Steps.{Checked, Name}
use Rattle.sql_binder_steps.specs.declared.view.View.{View}
use Rattle.base_value.specs.declared.truth.Fault.{Fault}
use Rattle.base_value.specs.declared.truth.Fault.TheVariants as fault
use Rattle.base_value.specs.declared.value.Value.{Value}
use Rattle.base_value.specs.declared.value.Value.TheVariants as value
use Rattle.base_schema.specs.State.{State}
use Rattle.app_sessions.specs.Versions.{printed_version, refused_beside, version_named}
use Rattle.app_sessions.specs.Views.{is_view, made_view}
use Rattle.app_sessions.specs.declared.outcome.Outcome.{Outcome}
use Rattle.app_sessions.specs.declared.outcome.Outcome.TheVariants.{Rows, Done, Accepted, Refused}
use Rattle.app_sessions.specs.declared.outcome.Outcome.TheVariants.{VersionRefused}

-- When a statement is answered: the version over which it begins, the tables of each version, and
-- what comes of the refresh, where the statement is one.
pub record Moment : Type 0 where
  pub version : ℕ
  pub tables : ℕ → State
  pub tried : Result ℕ Cause

-- the kind of a fault
abbrev pub kind_of_fault : Fault → FaultKind
kind_of_fault fault.TooManyRows = kind.TooManyRows
kind_of_fault fault.DivideByZero = kind.DivideByZero
kind_of_fault fault.NumberRange = kind.NumberRange

-- the rows of an answer, or its fault, which is the only value that stands there
abbrev pub answered : Result (List (List Value)) Value → Outcome
answered (Ok rows) = Rows rows
answered (Err (value.Fault f)) = Refused (refusal.Fault (kind_of_fault f))
answered (Err other) = Rows []

-- a bound query's answer over the tables of the version that it names, unless that is refused
abbrev pub named_outcome : Option VersionRefusal → BoundQuery → State → Outcome
named_outcome None bound tables = answered (answer bound tables)
named_outcome (Some why) bound tables = VersionRefused why

-- a bound query's answer over the version over which it began or over the one that it names, by the
-- tables of each version
abbrev pub bound_outcome : ℕ → (ℕ → State) → Option ℕ → BoundQuery → Outcome
bound_outcome begun tables None bound = answered (answer bound (tables begun))
bound_outcome begun tables (Some named) bound =
    named_outcome (refused_beside begun named) bound (tables named)

-- how many rows are read for it: none where the version that it names is refused
abbrev pub named_reads : Option VersionRefusal → BoundQuery → State → ℕ
named_reads None bound tables = reads bound.block tables
named_reads (Some why) bound tables = 0

-- the same of a bound query that names a version or none
abbrev pub bound_reads : ℕ → (ℕ → State) → Option ℕ → BoundQuery → ℕ
bound_reads begun tables None bound = reads bound.block (tables begun)
bound_reads begun tables (Some named) bound =
    named_reads (refused_beside begun named) bound (tables named)

-- what comes of a query: why it is not bound, which is tested first, or what comes of the bound one
abbrev pub query_outcome : ℕ → (ℕ → State) → Option ℕ → Checked BoundQuery → Outcome
query_outcome begun tables named (Ok bound) = bound_outcome begun tables named bound
query_outcome begun tables named (Err why) = Refused (refusal.Bind why)

-- a view was made, or is refused
abbrev pub made : Result View Refusal → Outcome
made (Ok view) = Done
made (Err why) = Refused why

-- a view was dropped, or there is none of the name
abbrev pub dropped : Bool → Outcome
dropped true = Done
dropped false = Refused refusal.UnknownView

-- a refresh was accepted and made a version, or is refused
abbrev pub refreshed : Result ℕ Cause → Outcome
refreshed (Ok version) = Accepted version
refreshed (Err cause) = Refused (refusal.Refresh cause)

-- the refusal of a run whose template is not filled; a filled one stands for its statements and has
-- no turn itself
abbrev pub run_outcome : Result (List ℕ) TemplateRefusal → Outcome
run_outcome (Ok text) = Done
run_outcome (Err why) = Refused (refusal.Template why)

-- what comes of a statement
abbrev pub outcome_of : Moment → List View → Statement → Outcome
outcome_of moment views (statement.Query q) =
    query_outcome moment.version moment.tables q.version (bound_query q views)
outcome_of moment views (statement.CreateView name names q) = made (made_view name names q views)
outcome_of moment views (statement.DropView name) = dropped (is_view name views)
outcome_of moment views (statement.Refresh change set) = refreshed moment.tried
outcome_of moment views (statement.Run number values) = run_outcome (filled_query number values)

-- whether the statement is refused
abbrev pub is_refusal : Outcome → Bool
is_refusal (Refused why) = true
is_refusal (VersionRefused why) = true
is_refusal other = false

-- The lines of a statement of this number, in which this version stands. The rows of an answer can
-- be left out.
abbrev pub outcome_text : Bool → ℕ → ℕ → Outcome → List ℕ
outcome_text shows_rows number version (Rows rows) =
    header number version (length rows) ++ (if shows_rows then answer_text rows else [])
outcome_text shows_rows number version Done = done_text number version
outcome_text shows_rows number version (Accepted after) = accepted_text number version after
outcome_text shows_rows number version (Refused why) = refusal_text number version why
outcome_text shows_rows number version (VersionRefused why) =
    version_refusal_text number version why

-- the lines of a statement of this number that began over a version and names one or none
abbrev pub outcome_lines : Bool → ℕ → ℕ → Option ℕ → Outcome → List ℕ
outcome_lines shows_rows number begun named outcome =
    outcome_text shows_rows number (printed_version begun named outcome) outcome

-- the lines of a statement of this number at its moment
abbrev pub statement_text : Bool → ℕ → Moment → List View → Statement → List ℕ
statement_text shows_rows number moment views statement =
    outcome_lines shows_rows number moment.version (version_named statement)
    (outcome_of moment views statement)

-- no row that is printed has a fault
abbrev pub is_printable : Outcome → Bool
is_printable (Rows rows) = rows_have_no_fault rows
is_printable other = true
