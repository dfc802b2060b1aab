-- Laws of sessions and of plans.
use Rattle.std.specs.Prelude.{◌≡◌, ◌↔◌, ℕ, ◌+◌, ◌-◌, ◌<◌, ◌≤◌, List, [], ◌∷◌, ◌++◌, drop, length}
use Rattle.std.specs.Prelude.{Bool, ◌&&◌}
use Rattle.std.specs.Prelude.{Option, None, Some}
use Rattle.app_result_text.specs.declared.version.VersionRefusal.TheVariants.{Gone, Unknown}
use Rattle.base_row_laws.specs.Bags.{SameBag}
use Rattle.plan_algebra.specs.Plans.{plan_reads, result_rows}
use Rattle.plan_algebra.specs.declared.plan.FlatPlan.{FlatPlan}
use Rattle.sql_bound_query.specs.Meaning.{rows}
use Rattle.plan_kept_queries.specs.Scans.{reads}
use Rattle.sql_bound_query.specs.Typing.{StateIsOf}
use Rattle.sql_bound_query.specs.declared.query.BoundQuery.{BoundQuery}
use Rattle.sql_ast.specs.declared.statement.Statement.{Statement}
use Rattle.base_schema.specs.State.{State, table_rows}
use Rattle.app_sessions.specs.Expansion.{ExpandAll}
use Rattle.app_sessions.specs.Outcomes.{Moment}
use Rattle.plan_planner.specs.Planned.{IsPlanOf}
use Rattle.app_sessions.specs.Sessions.{Course, are_clean, course_after, lines_of, next_of}
use Rattle.app_sessions.specs.Versions.{refused_beside}

-- A script's statements stand for one list of statements.
abbrev pub ExpandOnce : Type 0
ExpandOnce = (statements a b : List Statement)
    → ExpandAll statements a → ExpandAll statements b → a ≡ b

-- The plan of a query, run over tables of their kinds, gives the query's rows as a bag, and reads
-- as much as the query.
abbrev pub PlansRun : Type 0
PlansRun = (q : BoundQuery) (plan : FlatPlan) (state : State) → StateIsOf state → IsPlanOf q plan
    → SameBag (result_rows (table_rows state) plan.nodes) (rows q.block [] state)
    × (plan_reads (table_rows state) plan.nodes ≡ reads q.block state)

-- a session after a turn at each moment, as long as statements are left
abbrev pub turn_or_end : Course → Moment → Option Statement → Course
turn_or_end course moment None = course
turn_or_end course moment (Some statement) = course_after course moment statement

-- the same for moments one after another
abbrev pub course_through : Course → List Moment → Course
course_through course [] = course
course_through course (moment ∷ moments) =
    course_through (turn_or_end course moment (next_of course)) moments

-- The text of a session is, after what it has, the text of the statements that are left, each at
-- its moment; and it is clean exactly where it was and none of them is refused.
abbrev pub SessionsText : Type 0
SessionsText = (course : Course) (moments : List Moment)
    → ((course_through course moments).text
    ≡ course.text ++ lines_of course.shows_rows (course.answered + 1) course.views
    (drop course.answered course.steps) moments)
    × ((course_through course moments).is_clean
    ≡ (course.is_clean && are_clean course.views (drop course.answered course.steps) moments))

-- A statement is asked over the version that it names exactly where that is the version at which it
-- began or one of the 63 before it. A version above these is unknown, and one below them gone.
pub record VersionsAsked : Type 0 where
  pub asked :
      (begun named : ℕ)
      → (refused_beside begun named ≡ None) ↔ ((named ≤ begun) × (begun < named + 64))
  pub unknown :
      (begun named : ℕ) → (refused_beside begun named ≡ Some (Unknown named)) ↔ (begun < named)
  pub gone :
      (begun named : ℕ) → (refused_beside begun named ≡ Some (Gone named)) ↔ (named + 64 ≤ begun)
