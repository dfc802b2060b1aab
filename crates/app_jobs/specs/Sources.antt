-- What the values of a job stand for, and which jobs can be run.
use Rattle.std.specs.Prelude.{◌≡◌, ◌+◌, ◌<◌, ◌≤◌, [], List, length, map, option_map}
use Rattle.std.specs.List.{AllByRecursion}
use Rattle.std.specs.String.{string_bytes}
use Rattle.app_job_file.specs.Files.{most_refreshes, most_sessions}
use Rattle.app_sessions.specs.Asked.{AllUnasked}
use Rattle.app_sessions.specs.declared.session.Session.{Session}
use Rattle.sql_ast.specs.declared.statement.Statement.{Statement}
use Rattle.store_refresh_entries.specs.Change.{MayBeStored}
use Rattle.app_jobs.specs.Works.{JobWork}
use Rattle.app_jobs.specs.declared.sources.JobSources.{JobSources}

-- the statements of a session
abbrev pub steps_of : Session → List Statement
steps_of session = session.steps

-- what a job works on
abbrev pub work_view : JobSources → JobWork
work_view sources = record {
  keeps = sources.keeps.views;
  scripts = map steps_of sources.sessions.items;
  base = sources.base;
  list = sources.list.items;
  before = sources.before;
  senders = sources.senders.items;
  journal = option_map string_bytes sources.journal;
  kept = [];
}

-- A job that can be run: it has sessions, not too many, which are at their beginning, not too many
-- refreshes, and no more before the sessions than it has. Where some beside them are sent, all
-- beside them are.
pub record IsRunnable (sources : JobSources) : Type 0 where
  pub some : 0 < length sources.sessions.items
  pub few : length sources.sessions.items ≤ most_sessions
  pub unasked : AllUnasked sources.sessions.items
  pub refreshes : length sources.list.items ≤ most_refreshes
  pub places : sources.before + length sources.senders.items ≤ length sources.list.items
  pub all :
      0 < length sources.senders.items
      → sources.before + length sources.senders.items ≡ length sources.list.items

-- its refreshes may come to be stored in a journal
abbrev pub IsKeepable : JobSources → Type 0
IsKeepable sources = AllByRecursion MayBeStored sources.list.items
