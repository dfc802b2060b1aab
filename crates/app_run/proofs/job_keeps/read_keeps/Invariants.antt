use Rattle.std.proofs.Common.{◌≡◌, ◌≤◌, drop, length, map}
use Rattle.app_job_file.specs.Files.{keep_parts}
use Rattle.app_inputs.specs.Views.{IfKnown}
use Rattle.app_run.proofs.KeepScripts.{KeepsOn}
use Rattle.app_run.proofs.job_keeps.read_keeps.Given as goal

abbrev pub invariant-reading : goal.invariant-reading
invariant-reading g l =
    record {
      read : IfKnown (g.F.Files.held l.fn.files) (KeepsOn l.job (map keep_parts l.keeps) (drop l.keep-index (map keep_parts l.keeps)) l.all.views);
      count : length l.all.views ≡ l.keep-index;
      plans : length l.all.plans.items ≡ l.keep-index;
      held : g.F.Files.held l.files ≡ g.F.Files.held l.fn.files;
      faults : g.F.Files.faults l.fn.files ≤ g.F.Files.faults l.files;
      misses : g.F.Files.misses l.fn.files ≤ g.F.Files.misses l.files;
    }
