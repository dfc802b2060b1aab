use Rattle.std.proofs.Common.{◌≡◌, ◌++◌, drop, map}
use Rattle.app_sample_data.specs.Texts.{named}
use Rattle.base_io.specs.Memory.{folder_of}
use Rattle.app_run.specs.Trial.{in_made}
use Rattle.app_run.proofs.trial.put_made.Given as goal

abbrev pub invariant-loop-text : goal.invariant-loop-text
invariant-loop-text l = folder_of l.files.items ++ map in_made (named (drop l.text-index l.texts)) ≡ folder_of l.fn.files.items ++ map in_made (named l.texts)
