use Rattle.std.proofs.Common.{◌≡◌, ◌≤◌, drop, length, map}
use Rattle.std.specs.String.{string_bytes}
use Rattle.app_sessions.specs.Asked.{AllUnasked}
use Rattle.app_run.specs.JobViews.{BeginWith}
use Rattle.app_jobs.specs.Sources.{steps_of}
use Rattle.app_inputs.specs.Views.{IfKnown}
use Rattle.app_run.proofs.JobScripts.{Continues}
use Rattle.app_run.proofs.job_input.read_sessions.Given as goal

abbrev pub invariant-reading : goal.invariant-reading
invariant-reading g l =
    record {
      read : IfKnown (g.F.Files.held l.fn.files) (Continues (map string_bytes l.names) (drop l.name-index (map string_bytes l.names)) (map steps_of l.sessions.items));
      count : length l.sessions.items ≡ l.name-index;
      unasked : AllUnasked l.sessions.items;
      begins : BeginWith l.shows_rows l.views l.sessions.items;
      held : g.F.Files.held l.files ≡ g.F.Files.held l.fn.files;
      faults : g.F.Files.faults l.fn.files ≤ g.F.Files.faults l.files;
      misses : g.F.Files.misses l.fn.files ≤ g.F.Files.misses l.files;
    }
