use Rattle.std.proofs.Common.{◌≡◌, ℕ, take}
use Rattle.base_columns.specs.Bags.{bag_rows, AreWide}
use Rattle.exec_parallel_scan.specs.Stages.{staged, staged_width}
use Rattle.exec_parallel_scan.proofs.bags.staged_batches.Given as goal

abbrev pub invariant-loop-batch : goal.invariant-loop-batch
invariant-loop-batch l =
    record {
      wide : (width : ℕ) → AreWide width l.batches → AreWide (staged_width l.stages width) l.made.items;
      rows : bag_rows l.made.items ≡ staged l.stages (bag_rows (take l.batch-index l.batches));
    }
