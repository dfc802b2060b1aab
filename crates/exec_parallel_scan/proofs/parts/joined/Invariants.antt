use Rattle.std.proofs.Common.{◌≡◌, ◌++◌, length}
use Rattle.std.specs.Vec.Iter.{into_iter_items, into_iter_len}
use Rattle.exec_parallel_scan.specs.Parts.{ArePartsJoined}
use Rattle.exec_parallel_scan.proofs.parts.joined.Given as goal

abbrev pub invariant-loop-part : goal.invariant-loop-part
invariant-loop-part l =
    record {
      whole : l.yielded ++ into_iter_items l.part-iterator ≡ into_iter_items l.initial.part-iterator;
      left : into_iter_len l.part-iterator ≡ length (into_iter_items l.part-iterator);
      width : l.bag.width ≡ l.width;
      joined : ArePartsJoined l.yielded l.bag.rows;
    }
