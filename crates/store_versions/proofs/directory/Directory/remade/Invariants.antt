use Rattle.std.proofs.Common.{◌≡◌, ◌≤◌}
use Rattle.store_versions.specs.Trials.{version_of}
use Rattle.store_versions.proofs.directory.Directory.remade.Given as goal

abbrev pub invariant-loop-trial : goal.invariant-loop-trial
invariant-loop-trial g l = record {
  so_far : l.directory ≡ record l.self { done = l._trial };
  most : version_of l.directory ≤ l.version;
}
