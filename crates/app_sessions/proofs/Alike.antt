-- A statement reads no tables but those of the version at which it begins and of earlier ones.
use Rattle.std.proofs.Common.{◌≡◌, ℕ, ◌≤◌, List, Option, None, Some, Result, Ok, Err, ap, refl, le_refl}
use Rattle.base_refusals.specs.declared.refresh.Cause.{Cause}
use Rattle.app_result_text.specs.declared.version.VersionRefusal.{VersionRefusal}
use Rattle.sql_ast.specs.declared.statement.Statement.{Statement}
use Rattle.sql_ast.specs.declared.statement.Statement.TheVariants as statement
use Rattle.sql_binder.specs.Binding.{bound_query}
use Rattle.sql_binder_steps.specs.Steps.{Checked}
use Rattle.sql_binder_steps.specs.declared.view.View.{View}
use Rattle.sql_bound_query.specs.Answer.{answer}
use Rattle.sql_bound_query.specs.declared.query.BoundQuery.{BoundQuery}
use Rattle.base_schema.specs.State.{State}
use Rattle.app_sessions.specs.Outcomes.{answered, named_outcome, outcome_of, query_outcome}
use Rattle.app_sessions.specs.Sessions.{Course, course_after, with_lines}
use Rattle.app_sessions.specs.Versions.{refused_beside, version_named}
use Rattle.app_sessions.specs.Views.{views_after}
use Rattle.app_sessions.proofs.Beside.{versions_asked}

-- the tables are alike up to a version
abbrev AreAlike : ℕ → (ℕ → State) → (ℕ → State) → Type 0
AreAlike version tables others = (k : ℕ) → k ≤ version → tables k ≡ others k

named_alike : (begun named : ℕ) (tables others : ℕ → State) (bound : BoundQuery) (why : Option VersionRefusal)
    → refused_beside begun named ≡ why → AreAlike begun tables others
    → named_outcome why bound (tables named) ≡ named_outcome why bound (others named)
named_alike begun named tables others bound None is alike =
    ap (λ t. answered (answer bound t)) (alike named ((versions_asked.asked begun named).0 is).0)
named_alike begun named tables others bound (Some why) is alike = refl

bound_alike : (begun : ℕ) (tables others : ℕ → State) (named : Option ℕ) (bound : Checked BoundQuery)
    → AreAlike begun tables others
    → query_outcome begun tables named bound ≡ query_outcome begun others named bound
bound_alike begun tables others None (Ok bound) alike = ap (λ t. answered (answer bound t)) (alike begun (le_refl begun))
bound_alike begun tables others (Some named) (Ok bound) alike =
    named_alike begun named tables others bound (refused_beside begun named) refl alike
bound_alike begun tables others named (Err why) alike = refl

outcome_alike : (begun : ℕ) (tables others : ℕ → State) (tried : Result ℕ Cause) (views : List View) (s : Statement)
    → AreAlike begun tables others
    → outcome_of (record { version = begun; tables = tables; tried = tried }) views s
    ≡ outcome_of (record { version = begun; tables = others; tried = tried }) views s
outcome_alike begun tables others tried views (statement.Query q) alike = bound_alike begun tables others q.version (bound_query q views) alike
outcome_alike begun tables others tried views (statement.CreateView name names q) alike = refl
outcome_alike begun tables others tried views (statement.DropView name) alike = refl
outcome_alike begun tables others tried views (statement.Refresh change set) alike = refl
outcome_alike begun tables others tried views (statement.Run number values) alike = refl

-- a turn over one or the other leaves the same
pub course_alike : (course : Course) (begun : ℕ) (tables others : ℕ → State) (tried : Result ℕ Cause) (s : Statement)
    → AreAlike begun tables others
    → course_after course (record { version = begun; tables = tables; tried = tried }) s
    ≡ course_after course (record { version = begun; tables = others; tried = tried }) s
course_alike course begun tables others tried s alike =
    ap (λ o. record (with_lines course begun (version_named s) o) { views = views_after course.views s })
    (outcome_alike begun tables others tried course.views s alike)
