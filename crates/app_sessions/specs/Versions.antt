-- The version over which a statement is asked, and the one in its line.
use Rattle.std.specs.Prelude.{ℕ, ◌+◌, Option, None, Some, if◌then◌else◌, nat_le, nat_lt}
use Rattle.app_result_text.specs.declared.version.VersionRefusal.{VersionRefusal}
use Rattle.app_result_text.specs.declared.version.VersionRefusal.TheVariants.{Gone, Unknown}
use Rattle.base_refusals.specs.declared.statement.Refusal.TheVariants.{Fault}
use Rattle.sql_ast.specs.declared.statement.Statement.{Statement}
use Rattle.sql_ast.specs.declared.statement.Statement.TheVariants as statement
use Rattle.store_versions.specs.Trials.{Trials}
use Rattle.store_state.specs.Versions.{version_state}
use Rattle.base_schema.specs.State.{State}
use Rattle.app_sessions.specs.declared.outcome.Outcome.{Outcome}
use Rattle.app_sessions.specs.declared.outcome.Outcome.TheVariants.{Rows, Refused}

-- the tables of each version, by its number, of a base and a list
abbrev pub states_of : Trials → ℕ → State
states_of trials = version_state trials.base trials.list

-- the version that a statement names; queries alone can name one
abbrev pub version_named : Statement → Option ℕ
version_named (statement.Query q) = q.version
version_named other = None

-- Why a statement that began over one version is not asked over another one that it names: that is
-- not there yet, or lies 64 or more versions before.
abbrev pub refused_beside : ℕ → ℕ → Option VersionRefusal
refused_beside begun named =
    if nat_lt begun named then Some (Unknown named)
    else if nat_le (named + 64) begun then Some (Gone named) else None

-- The version in the line of a statement that began over a version and names one or none: the one
-- that it names stands with an answer and with the answer's fault; else it is the one over which it
-- began.
abbrev pub printed_version : ℕ → Option ℕ → Outcome → ℕ
printed_version begun None outcome = begun
printed_version begun (Some named) (Rows rows) = named
printed_version begun (Some named) (Refused (Fault kind)) = named
printed_version begun (Some named) other = begun
