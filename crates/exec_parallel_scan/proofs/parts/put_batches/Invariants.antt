use Rattle.std.proofs.Common.{◌≡◌, ◌++◌, length}
use Rattle.std.specs.Vec.Iter.{into_iter_items, into_iter_len}
use Rattle.base_columns.specs.Bags.{bag_rows}
use Rattle.exec_parallel_scan.proofs.parts.put_batches.Given as goal

abbrev pub invariant-loop-batch : goal.invariant-loop-batch
invariant-loop-batch l =
    record {
      whole : l.yielded ++ into_iter_items l.batch-iterator ≡ into_iter_items l.initial.batch-iterator;
      left : into_iter_len l.batch-iterator ≡ length (into_iter_items l.batch-iterator);
      width : l.bag.width ≡ l.initial.bag.width;
      rows : l.bag.rows ≡ l.initial.bag.rows ++ bag_rows l.yielded;
    }
