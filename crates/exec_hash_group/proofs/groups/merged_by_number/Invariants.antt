use Rattle.std.proofs.Common.{◌≡◌, ◌++◌, length}
use Rattle.std.specs.Vec.Iter.{into_iter_items, into_iter_len}
use Rattle.exec_hash_group.proofs.Merging.{Merged}
use Rattle.exec_hash_group.proofs.groups.merged_by_number.Given as goal

abbrev pub invariant-loop-part : goal.invariant-loop-part
invariant-loop-part g l =
    record {
      whole : l.yielded ++ into_iter_items l.part-iterator ≡ into_iter_items l.initial.part-iterator;
      left : into_iter_len l.part-iterator ≡ length (into_iter_items l.part-iterator);
      row : l.row ≡ length l.yielded;
      merged : Merged g.A.Accumulator.has_taken g.A.Accumulator.terms l.initial.states.items l.states.items l.numbers l.yielded;
    }
