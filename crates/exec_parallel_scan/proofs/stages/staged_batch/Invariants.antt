use Rattle.std.proofs.Common.{◌≡◌, ◌<◌, take}
use Rattle.exec_parallel_scan.specs.Stages.{staged, staged_width}
use Rattle.exec_parallel_scan.proofs.stages.staged_batch.Given as goal

abbrev pub invariant-loop-k : goal.invariant-loop-k
invariant-loop-k l =
    record {
      some : 0 < l.k;
      width : l.rows.width ≡ staged_width (take l.k l.stages) l.batch.width;
      rows : l.rows.rows ≡ staged (take l.k l.stages) l.batch.rows;
    }
