use Rattle.std.proofs.Common.{◌≤◌, [], take}
use Rattle.app_sample_data.specs.Texts.{named}
use Rattle.make_data.specs.Target.{Grows, files_in}
use Rattle.make_data.proofs.run.write_texts.Given as goal

abbrev pub invariant-loop-text : goal.invariant-loop-text
invariant-loop-text g l = record {
  whole : Grows (g.T.Target.files l.fn.target) (g.T.Target.files l.target) (files_in l.folder (named (take l.text-index l.texts)));
  printed : Grows (g.T.Target.printed l.fn.target) (g.T.Target.printed l.target) [];
  later : g.T.Target.faults l.fn.target ≤ g.T.Target.faults l.target;
}
